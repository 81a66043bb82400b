use Rattle.fid_space.proofs.Hex.{literal_end}
use Rattle.std.proofs.Common.{arith}
use Rattle.fid_space.proofs.reading.literal.Goals as goal

pub returns-in-empty : goal.returns-in-empty
returns-in-empty c = literal_end c.args.len c.loop-b.b-index c.args.bytes.now c.loop-b.rest.now c.args.rest.now c.loop-b-test.true (omega (arith, c.in-empty.len_below)) c.loop-b.invariant
