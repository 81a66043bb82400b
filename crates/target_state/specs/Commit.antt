-- What a commit makes durable, and what it tells.
use Rattle.std.specs.Prelude.{ℕ, zero, suc, ◌+◌, ◌*◌, Bool, true, false, nat_le, nat_lt, ◌==◌, ◌&&◌, if◌then◌else◌, List, [], ◌∷◌, ◌++◌, length, max, Option, Some, None}
use Rattle.std.specs.FinMap as map
use Rattle.llog_store.specs.Log.{Log, live_count}
use Rattle.llog_store.specs.Changes.{repacked}
use Rattle.target_state.specs.declared.waiting.Waiting.{Waiting}
use Rattle.target_state.specs.declared.waiting.Committed.{Committed}
use Rattle.target_state.specs.State.{TargetState}

abbrev pub is_empty : List Waiting → Bool
is_empty [] = true
is_empty (w ∷ ws) = false

-- at least one record is cancelled, and at least half of them are
abbrev pub is_half_cancelled : Log → Bool
is_half_cancelled log = nat_lt (live_count log.entries) (length log.entries) && nat_le (2 * live_count log.entries) (length log.entries)

abbrev pub thinned : Log → Log
thinned log = if is_half_cancelled log then repacked log else log

-- the state that a commit makes durable
abbrev pub packed : TargetState → TargetState
packed s = record s { log = thinned s.log }

-- nothing waits any more
abbrev pub settled : TargetState → TargetState
settled s = record s { waiting = []; writers = map.empty }

-- the state after it
abbrev pub committed : TargetState → TargetState
committed s = settled (packed s)

-- ---- what is told

abbrev pub numbers_of : List Waiting → List ℕ
numbers_of [] = []
numbers_of (w ∷ ws) = w.number ∷ numbers_of ws

abbrev pub later : Option ℕ → ℕ → ℕ
later None batch = batch
later (Some most) batch = max most batch

-- the greatest of a batch and those of a master's records
abbrev pub greatest_from : Option ℕ → ℕ → List Waiting → Option ℕ
greatest_from most master [] = most
greatest_from most master (w ∷ ws) = greatest_from (if w.master == master then Some (later most w.batch) else most) master ws

abbrev pub mark_of : ℕ → Option ℕ → List (ℕ × ℕ)
mark_of master None = []
mark_of master (Some batch) = (master, batch) ∷ []

-- a master's, where it is another one than this target
abbrev pub other_mark : ℕ → ℕ → List Waiting → List (ℕ × ℕ)
other_mark index master ws = if master == index then [] else mark_of master (greatest_from None master ws)

-- so many masters, from one on
abbrev pub marks_from : ℕ → ℕ → ℕ → List Waiting → List (ℕ × ℕ)
marks_from zero index master ws = []
marks_from (suc n) index master ws = other_mark index master ws ++ marks_from n index (master + 1) ws

-- the numbers as they were executed, and the other masters by their numbers, each with the greatest batch of
-- its records
abbrev pub listed : ℕ → List Waiting → Committed
listed index ws = record { stable = numbers_of ws; batches = marks_from 16 index 0 ws }
