use Rattle.std.specs.Prelude.{◌<◌, length}
use Rattle.std.proofs.Common.{◌∙◌, refl, sym, arith}
use Rattle.chain_blocks.proofs.Marking.{lost_at, lost_none, read_at}
use Rattle.chain_blocks.proofs.marks.find_lost.Goals as goal

pub returns-then-index-eq0 : goal.returns-then-index-eq0
returns-then-index-eq0 c = λ blocks zero one.
    let ms = c.args.marks.now.items in
    let at = c.loop-block.block in
    let lt : at < length ms = omega arith in
    let unset = sym (read_at ms at c.index.result.now lt c.index.ensures) ∙ c.if-index-eq0.true in
    let lost = lost_at (length ms) 0 at blocks (omega arith) (omega arith) (zero at unset) (λ k low high none. omega (arith, one k (c.loop-block.invariant k high))) in
    (at, lost, refl)

pub returns : goal.returns
returns c = λ blocks zero one.
    let ms = c.args.marks.now.items in
    (lost_none (length ms) 0 blocks (λ k low high none. omega (arith, one k (c.loop-block.invariant k (omega arith)))), λ k lt. c.loop-block.invariant k (omega arith))
