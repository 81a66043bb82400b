use Rattle.std.proofs.Common.{◌≡◌, ◌≤◌, ◌-◌, ℕ, length, take, get_or, None}
use Rattle.std.specs.Prelude.{is_some}
use Rattle.outside.specs.Pages.{cells}
use Rattle.outside.specs.Cells.{Overwrites}
use Rattle.outside.proofs.fill.put_range.Given as goal

abbrev pub invariant-loop-done : goal.invariant-loop-done
invariant-loop-done l = record {
  within : l.done ≤ length l.from;
  count : length l.pages.items ≡ length l.initial.pages.items;
  same : (p : ℕ) → is_some (get_or l.pages.items p None) ≡ is_some (get_or l.initial.pages.items p None);
  over : Overwrites l.at (take l.done l.from) (cells l.initial.pages.items) (cells l.pages.items);
}

abbrev pub decreases-loop-done : goal.decreases-loop-done
decreases-loop-done l = length l.from - l.done
