use Rattle.std.specs.Prelude.{length}
use Rattle.std.proofs.Common.{◌≡◌, ◌∙◌, refl, subst, arith}
use Rattle.chain_blocks.specs.Chains.{joined}
use Rattle.chain_blocks.proofs.Marking.{Heading, heading_first, heading_out, heading_fault, heading_next, heading_end}
use Rattle.chain_blocks.proofs.marks.mark_heads.Goals as goal

pub loop-i-init : goal.loop-i-init
loop-i-init c = record { len = refl; heading = heading_first c.args.links.now c.args.heads.now c.args.marks.now.items c.requires.unset }

pub loop-i-preserved : goal.loop-i-preserved
loop-i-preserved c =
    let h = c.loop-i.invariant.heading in record {
      len = c.mark_chain.ensures.len ∙ c.loop-i.invariant.len;
      heading = heading_next c.args.links.now c.args.heads.now c.loop-i.marks.items c.loop-i.i h (omega arith) c.mark_chain.new.marks.items _ c.if-heads-i.false (c.in-Ok.ensures.chains (joined h.chains) h.marked);
    }

pub returns-then-heads-i-clause-heads : goal.returns-then-heads-i-clause-heads
returns-then-heads-i-clause-heads c = heading_out c.args.links.now c.args.heads.now c.loop-i.marks.items c.loop-i.i c.loop-i.invariant.heading (omega arith) c.if-heads-i.true

pub returns-then-heads-i-clause-len : goal.returns-then-heads-i-clause-len
returns-then-heads-i-clause-len c = c.loop-i.invariant.len

pub returns-in-Err-clause-heads : goal.returns-in-Err-clause-heads
returns-in-Err-clause-heads c =
    let h = c.loop-i.invariant.heading in
    heading_fault c.args.links.now c.args.heads.now c.loop-i.marks.items c.loop-i.i h (omega arith) c.in-Err.fault c.if-heads-i.false (c.in-Err.ensures.chains (joined h.chains) h.marked)

pub returns-clause-heads : goal.returns-clause-heads
returns-clause-heads c =
    let n : c.loop-i.i ≡ length c.args.heads.now = omega arith in
    heading_end c.args.links.now c.args.heads.now c.loop-i.marks.items (subst (λ j. Heading c.args.links.now c.args.heads.now c.loop-i.marks.items j) n c.loop-i.invariant.heading)
