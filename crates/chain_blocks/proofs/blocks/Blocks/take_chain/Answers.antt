use Rattle.std.proofs.Common.{◌≡◌, ◌<◌, ◌∷◌, length, drop, arith, ap, subst}
use Rattle.chain_blocks.specs.Chains.{Holds}
use Rattle.chain_blocks.proofs.Taking.{taking_none, taking_first, taking_full, taking_next, same_free, took_all}
use Rattle.chain_blocks.proofs.blocks.Blocks.take_chain.Goals as goal

pub unreachable-requires : goal.unreachable-requires
unreachable-requires c =
    let w = c.requires.enough in
    taking_none c.args.self.now c.take.new.self c.take.result c.in_default.field-0 w.0 w.1 c.in_default.is (omega (arith, c.requires.some, w.3)) (c.take.ensures w.0 w.1 w.2)

pub loop-i-init : goal.loop-i-init
loop-i-init c = record {
  taking = λ free chains holds enough. taking_first c.args.self.now c.take.new.self c.take.result c.in-Ok.head free chains c.in-Ok.is (omega (arith, c.requires.some)) (c.take.ensures free chains holds);
}

pub link_after-requires : goal.link_after-requires
link_after-requires c =
    let w = c.requires.enough in
    let t = c.loop-i.invariant.taking w.0 w.1 w.2 w.3 in
    (drop c.loop-i._i w.0, t.before, w.1, subst (λ l. Holds c.loop-i.self (drop c.loop-i._i w.0) (l ∷ w.1)) t.is t.holds)

pub unreachable-requires-in-Err : goal.unreachable-requires-in-Err
unreachable-requires-in-Err c =
    let w = c.requires.enough in
    let lt : c.loop-i._i < length w.0 = omega (arith, w.3) in
    taking_full c.loop-i._i w.0 w.1 c.in-Ok.head c.loop-i.tail c.in-Err.field-0 c.loop-i.self c.link_after.new.self c.link_after.result c.in-Err.is lt (c.loop-i.invariant.taking w.0 w.1 w.2 w.3) c.link_after.ensures

pub loop-i-preserved : goal.loop-i-preserved
loop-i-preserved c = record {
  taking = λ free chains holds enough.
      let lt : c.loop-i._i < length free = omega arith in
      taking_next c.loop-i._i free chains c.in-Ok.head c.loop-i.tail c.in-Ok-link_after.block c.loop-i.self c.link_after.new.self c.link_after.result c.in-Ok-link_after.is lt (c.loop-i.invariant.taking free chains holds enough) c.link_after.ensures;
}

pub returns : goal.returns
returns c = λ free chains holds.
    let w = c.requires.enough in
    let same = ap length (same_free c.args.self.now free w.0 chains w.1 holds w.2) in
    let n : c.loop-i._i ≡ c.args.count = omega arith in
    took_all c.args.count c.loop-i._i free chains c.in-Ok.head c.loop-i.tail c.loop-i.self n (c.loop-i.invariant.taking free chains holds (omega (arith, same, w.3)))
