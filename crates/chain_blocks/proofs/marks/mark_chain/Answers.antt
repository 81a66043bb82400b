use Rattle.std.proofs.Common.{◌∙◌, refl, arith}
use Rattle.std.proofs.lemmas.List.{get_or_default}
use Rattle.chain_blocks.specs.Chains.{last_link}
use Rattle.chain_blocks.proofs.Marking.{unmarked_most, walking_first, walking_next, walking_fault, walking_end}
use Rattle.chain_blocks.proofs.marks.mark_chain.Goals as goal

pub loop-block-init : goal.loop-block-init
loop-block-init c = record {
  len = refl;
  bound = omega (arith, unmarked_most c.args.marks.now.items);
  walking = λ seen m. walking_first c.args.links.now c.args.marks.now.items c.args.mark c.args.head seen c.requires.same m;
}

pub loop-block-preserved : goal.loop-block-preserved
loop-block-preserved c =
    let old = c.loop-block.marks.items in
    let new = c.meet.new.marks.items in
    let fewer = c.in-Ok.ensures.fewer in
    let inside = c.in-Ok.ensures.inside in
    record {
      len = c.meet.ensures.len ∙ c.loop-block.invariant.len;
      bound = omega (arith, c.loop-block.invariant.bound);
      walking = λ seen m.
          let w = c.loop-block.invariant.walking seen m in
          let is = c.in-Ok.ensures.meets seen w.here w.marked in
          walking_next c.args.links.now old new c.args.mark c.args.head c.loop-block.block _ c.loop-block.count seen (c.loop-block.invariant.len ∙ c.requires.same) c.loop-block-test.true w is.0 is.1 is.2 fewer
          (get_or_default c.args.links.now c.loop-block.block 0 last_link (omega (arith, c.loop-block.invariant.len, c.requires.same)));
    }

pub returns-in-Err-clause-chains : goal.returns-in-Err-clause-chains
returns-in-Err-clause-chains c = λ seen m.
    let w = c.loop-block.invariant.walking seen m in
    walking_fault c.args.links.now c.loop-block.marks.items c.args.mark c.args.head c.loop-block.block c.loop-block.count seen c.in-Err.fault (c.loop-block.invariant.len ∙ c.requires.same) c.loop-block-test.true w (c.in-Err.ensures.meets seen w.here w.marked)

pub returns-clause-chains : goal.returns-clause-chains
returns-clause-chains c = λ seen m. walking_end c.args.links.now c.loop-block.marks.items c.args.mark c.args.head c.loop-block.block c.loop-block.count seen c.loop-block-test.false (c.loop-block.invariant.walking seen m)
