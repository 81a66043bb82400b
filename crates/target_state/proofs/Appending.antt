-- What appending a record to a log comes to.
use Rattle.std.proofs.Common.{◌≡◌, ℕ, ◌+◌, ◌*◌, ◌≤◌, ◌<◌, Bool, true, false, if◌then◌else◌, List, length, None, ap, arith}
use Rattle.llog_store.specs.Numbers.{pad8}
use Rattle.llog_store.specs.Log.{Log, log_text, record_size, room, fits_in}
use Rattle.llog_store.specs.Kept.{append_fault}
use Rattle.llog_store.specs.Changes.{given_index, appended}
use Rattle.target_state.specs.Rules.{most_redo_next}

-- a record takes the next index, or the one behind it
one_behind : (b : Bool) (n : ℕ) → (if b then n else n + 1) ≤ n + 1
one_behind true n = omega arith
one_behind false n = omega arith

pub index_left : (log : Log) (p : List ℕ) → log.next ≤ most_redo_next → given_index log p < 256000
index_left log p low = let a = one_behind (fits_in (room (length (log_text log))) (record_size (length p))) log.next in omega (arith, a, low)

-- a record that is short enough, and has an index, is appended
pub no_fault : (log : Log) (p : List ℕ) → length p ≤ 24576 → given_index log p < 256000 → append_fault log p ≡ None
unfolding append_fault
no_fault log p short room = grind (arith, short, room)

size_most : (n : ℕ) → n ≤ 24576 → record_size n ≤ 24608
unfolding pad8
size_most n short = omega (arith, short)

pub grows_most : (new : Log) (log : Log) (p : List ℕ) → length p ≤ 24576 → new ≡ appended log p
    → length (log_text (appended log p)) ≤ length (log_text log) + 2 * record_size (length p) + 24 → length (log_text new) ≤ length (log_text log) + 49240
grows_most new log p short is grows =
    let same = ap (λ l. length (log_text l)) is in
    let most = size_most (length p) short in
    omega (arith, same, most, grows)
