use Rattle.std.proofs.Common.{◌≡◌, ◌<◌, ◌≤◌, ◌/◌, ℕ, get_or, None, true}
use Rattle.std.specs.Prelude.{is_some}
use Rattle.outside.specs.Cells.{page_len}
use Rattle.outside.specs.Pages.{cells, HasPages}
use Rattle.outside.proofs.fill.make_range.Given as goal

abbrev pub invariant-loop-p : goal.invariant-loop-p
invariant-loop-p l = record {
  cells : cells l.pages.items ≡ cells l.initial.pages.items;
  kept : HasPages l.initial.pages.items l.pages.items;
  below : (p : ℕ) → p < l.at / page_len → is_some (get_or l.pages.items p None) ≡ is_some (get_or l.initial.pages.items p None);
  above : (p : ℕ) → l.p ≤ p → is_some (get_or l.pages.items p None) ≡ is_some (get_or l.initial.pages.items p None);
  there : (p : ℕ) → l.at / page_len ≤ p → p < l.p → is_some (get_or l.pages.items p None) ≡ true;
}
