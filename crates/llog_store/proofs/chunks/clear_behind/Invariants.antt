use Rattle.std.proofs.Common.{◌≡◌, ◌≤◌, ◌<◌, ℕ, [], length, get_or}
use Rattle.llog_store.proofs.chunks.clear_behind.Given as goal

abbrev pub invariant-loop-i : goal.invariant-loop-i
invariant-loop-i l = record {
  first : get_or l.chunks.items 0 [] ≡ get_or l.fn.chunks.items 0 [];
  count : length l.chunks.items ≡ length l.fn.chunks.items;
  empty : (j : ℕ) → 1 ≤ j → j < l.i → get_or l.chunks.items j [] ≡ [];
}
