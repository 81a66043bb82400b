use Rattle.std.specs.Prelude.{false, not, ◌||◌, if◌then◌else◌}
use Rattle.std.proofs.Common.{◌≡◌, ◌<◌, ◌≤◌, ℕ, length, get_or}
use Rattle.outside.specs.Cells.{keeps}
use Rattle.outside.proofs.page.choose_bytes.Given as goal

abbrev pub invariant-loop-i : goal.invariant-loop-i
invariant-loop-i l = record {
  count : length l.content.items ≡ length l.initial.content.items;
  done : (k : ℕ) → l.low ≤ k → k < l.i → get_or l.content.items k 0 ≡ (if not (get_or l.dirty.items k false) || keeps l.choice k then get_or l.initial.content.items k 0 else get_or l.settled.items k 0);
  below : (k : ℕ) → k < l.low → get_or l.content.items k 0 ≡ get_or l.initial.content.items k 0;
  ahead : (k : ℕ) → l.i ≤ k → get_or l.content.items k 0 ≡ get_or l.initial.content.items k 0;
}
