use Rattle.std.proofs.Common.{◌∙◌, refl, arith}
use Rattle.outside.specs.Pages.{cells}
use Rattle.outside.proofs.Zipped.{over_none, over_next}
use Rattle.outside.proofs.fill.put_range.Goals as goal

pub loop-done-init : goal.loop-done-init
loop-done-init c = record {
  within = omega arith;
  count = refl;
  same = λ p. refl;
  over = over_none c.args.at (cells c.args.pages.now.items);
}

pub loop-done-preserved : goal.loop-done-preserved
loop-done-preserved c =
    let now = c.loop-done.invariant in record {
      within = omega arith;
      count = c.put_piece.ensures.count ∙ now.count;
      same = λ p. c.put_piece.ensures.same p ∙ now.same p;
      over = over_next c.args.at c.loop-done.done c.min-n.result _ c.args.from.now _ _ _ (omega arith) (omega arith) now.over c.put_piece.ensures.cells;
    }
