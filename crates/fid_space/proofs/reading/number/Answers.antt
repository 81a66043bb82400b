use Rattle.std.proofs.Common.{rules, arith, ◌≤◌, length}
use Rattle.std.proofs.Math.Nat.{pow-le-pow_right}
use Rattle.fid_space.proofs.Hex.{hex_all}
use Rattle.fid_space.proofs.reading.number.Goals as goal

pub value_of-requires-clause-hex : goal.value_of-requires-clause-hex
value_of-requires-clause-hex c = rw c.digits_of.ensures.front (hex_all c.args.rest.now)

pub returns-clause-fits : goal.returns-clause-fits
returns-clause-fits c =
    let few : length c.digits_of.result.0.now ≤ c.args.most = search rules in
    let top = pow-le-pow_right {n = 16} (omega arith) few in
    omega (arith, c.value_of.ensures.fits, top)
