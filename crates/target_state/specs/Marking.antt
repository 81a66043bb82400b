-- Which records a mark cancels, and up to which batch a target is told that those of a master are committed.
use Rattle.std.specs.Prelude.{◌≡◌, ◌<◌, ◌≤◌, Contains, ℕ, zero, suc, ◌+◌, Bool, false, nat_le, nat_lt, ◌==◌, ◌&&◌, ◌||◌, if◌then◌else◌, List, [], ◌∷◌, ◌++◌, map, length, take, drop, max, Option, Some, None}
use Rattle.std.specs.List.{AllByRecursion}
use Rattle.std.specs.Int.{w32, w64}
use Rattle.byte_grammar.specs.Numbers.{worth}
use Rattle.llog_store.specs.Log.{Entry, Log}
use Rattle.llog_store.specs.Changes.{live_payloads}
use Rattle.target_state.specs.declared.waiting.Waiting.{Waiting}
use Rattle.target_state.specs.Commit.{later, mark_of}
use Rattle.target_state.specs.State.{TargetState}

-- the master of the record that bytes spell, and its batch there: behind magic and epoch, and behind the number
unfoldable pub id_in : List ℕ → Option (ℕ × ℕ)
id_in bytes = if nat_lt (length bytes) 24 then None else Some (worth w32 (take 4 (drop 8 bytes)), worth w64 (take 8 (drop 16 bytes)))

-- ---- what is cancelled

-- a master's batch, up to a mark
abbrev pub is_up_to : ℕ → ℕ → Option (ℕ × ℕ) → Bool
is_up_to master mark None = false
is_up_to master mark (Some id) = (id.0 == master) && nat_le id.1 mark

-- a record of the master up to the mark isn't live any more
abbrev pub without_done : ℕ → ℕ → Entry → Entry
without_done master mark e = if is_up_to master mark (id_in e.payload) then record { index = e.index; live = false; payload = e.payload } else e

abbrev pub cancelled_log : ℕ → ℕ → Log → Log
cancelled_log master mark log = record { next = log.next; entries = map (without_done master mark) log.entries }

-- the live records of a master up to a mark are cancelled, in memory
abbrev pub cancelled : TargetState → ℕ → ℕ → TargetState
cancelled s master mark = record s { log = cancelled_log master mark s.log }

-- the target's mark as a master has risen, and its own records up to there are cancelled
abbrev pub marked : TargetState → ℕ → TargetState
marked s mark = cancelled (record s { mark = max s.mark mark }) s.index (max s.mark mark)

-- ---- what is committed

-- a record with this master and batch waits to be committed
abbrev pub waits : List Waiting → ℕ → ℕ → Bool
waits [] master batch = false
waits (w ∷ ws) master batch = ((w.master == master) && (w.batch == batch)) || waits ws master batch

abbrev pub stable_id : List Waiting → Option (ℕ × ℕ) → List (ℕ × ℕ)
stable_id ws None = []
stable_id ws (Some id) = if waits ws id.0 id.1 then [] else id ∷ []

-- master and batch of those that don't wait
unfoldable pub stable_ids : List Waiting → List (List ℕ) → List (ℕ × ℕ)
stable_ids ws [] = []
stable_ids ws (payload ∷ payloads) = stable_id ws (id_in payload) ++ stable_ids ws payloads

-- the greatest of a batch and those of a master
abbrev pub greatest_batch : ℕ → Option ℕ → List (ℕ × ℕ) → Option ℕ
greatest_batch master most [] = most
greatest_batch master most (id ∷ ids) = greatest_batch master (if id.0 == master then Some (later most id.1) else most) ids

-- a batch is the greatest of a master's; there is none where the master has none
abbrev pub IsGreatest : ℕ → List (ℕ × ℕ) → Option ℕ → Type 0
IsGreatest master ids None = AllByRecursion (λ (id : ℕ × ℕ). id.0 ≡ master → ⊥) ids
IsGreatest master ids (Some most) = Contains ids (master, most) × AllByRecursion (λ (id : ℕ × ℕ). id.0 ≡ master → id.1 ≤ most) ids

-- so many masters, from one on, each with the greatest of its batches
unfoldable pub greatest_batches : ℕ → ℕ → List (ℕ × ℕ) → List (ℕ × ℕ)
greatest_batches zero master ids = []
greatest_batches (suc n) master ids = mark_of master (greatest_batch master None ids) ++ greatest_batches n (master + 1) ids

-- the masters of the live records that are committed, by their numbers, each with the greatest batch of these
abbrev pub stable_marks : TargetState → List (ℕ × ℕ)
stable_marks s = greatest_batches 16 0 (stable_ids s.waiting (live_payloads s.log.entries))
