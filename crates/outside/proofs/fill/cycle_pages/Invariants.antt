use Rattle.std.specs.Prelude.{is_some}
use Rattle.std.proofs.Common.{◌≡◌, ◌<◌, ◌≤◌, ℕ, length, get_or, None}
use Rattle.outside.specs.Cells.{Cycled}
use Rattle.outside.specs.Pages.{page_cells}
use Rattle.outside.proofs.fill.cycle_pages.Given as goal

abbrev pub invariant-loop-p : goal.invariant-loop-p
invariant-loop-p l = record {
  count : length l.pages.items ≡ length l.initial.pages.items;
  done : (p : ℕ) → p < l.p → Cycled l.choice (page_cells (get_or l.initial.pages.items p None)) (page_cells (get_or l.pages.items p None));
  ahead : (p : ℕ) → l.p ≤ p → get_or l.pages.items p None ≡ get_or l.initial.pages.items p None;
  same : (p : ℕ) → is_some (get_or l.pages.items p None) ≡ is_some (get_or l.initial.pages.items p None);
}
