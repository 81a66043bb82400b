use Rattle.std.specs.Prelude.{[]}
use Rattle.std.proofs.Common.{◌≤◌, arith, drop}
use Rattle.chain_blocks.specs.Chains.{numbers}
use Rattle.chain_blocks.proofs.Writing.{took_chain}
use Rattle.disk_tests.proofs.chains.read_back.Goals as goal

pub write_chain-requires-clause-within : goal.write_chain-requires-clause-within
write_chain-requires-clause-within c = let h = c.in-Ok.ensures in omega (arith, h.size)

pub read_chain-requires-clause-head : goal.read_chain-requires-clause-head
read_chain-requires-clause-head c =
    let h = c.in-Ok.ensures in
    let w = c.in-Ok-write_chain.ensures.blocks (numbers 0 4) [] h in
    let some : 1 ≤ w.0 = omega (arith, w.1.most, c.requires) in
    let t = took_chain w.0 (numbers 0 4) [] c.in-Ok-write_chain.head c.in-Ok.blocks c.write_chain.new.self some w.2 h w.3 in
    (drop w.0 (numbers 0 4), t.behind, [], t.holds)

pub read_chain-requires-clause-within : goal.read_chain-requires-clause-within
read_chain-requires-clause-within c =
    let h = c.in-Ok.ensures in
    let w = c.in-Ok-write_chain.ensures.blocks (numbers 0 4) [] h in
    let some : 1 ≤ w.0 = omega (arith, w.1.most, c.requires) in
    let t = took_chain w.0 (numbers 0 4) [] c.in-Ok-write_chain.head c.in-Ok.blocks c.write_chain.new.self some w.2 h w.3 in
    omega (arith, t.size, h.size)
