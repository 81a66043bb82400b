-- What the calls make of a log.
use Rattle.std.specs.Prelude.{ℕ, ◌+◌, ◌==◌, ◌&&◌, nat_le, true, false, List, [], ◌∷◌, ◌++◌, length, map, if◌then◌else◌, Option, Some, None}
use Rattle.llog_store.specs.Log.{Entry, Log, record_size, start_of, index_of, entry_end, log_text, empty_log}

-- the index that a payload gets: it is the next one, or the one after a pad
abbrev pub given_index : Log → List ℕ → ℕ
given_index log payload = index_of (length (log_text log)) log.next (record_size (length payload))

-- one live record more
unfoldable pub appended : Log → List ℕ → Log
appended log payload = record { next = given_index log payload + 1; entries = log.entries ++ (record { index = given_index log payload; live = true; payload = payload } ∷ []) }

-- the record with the index isn't live any more
abbrev pub without : ℕ → Entry → Entry
without index e = if e.index == index then record { index = e.index; live = false; payload = e.payload } else e

unfoldable pub cancelled : Log → ℕ → Log
cancelled log index = record { next = log.next; entries = map (without index) log.entries }

-- one record after another
unfoldable pub all_appended : Log → List (List ℕ) → Log
all_appended log [] = log
all_appended log (payload ∷ payloads) = all_appended (appended log payload) payloads

unfoldable pub live_payloads : List Entry → List (List ℕ)
live_payloads [] = []
live_payloads (e ∷ es) = if e.live then e.payload ∷ live_payloads es else live_payloads es

-- the live records in their order, appended to an empty log
abbrev pub packed : Log → Log
packed log = all_appended empty_log (live_payloads log.entries)

-- the log with its live records alone; it stays as it is where these would need an index from 256,000 on
abbrev pub repacked : Log → Log
repacked log = if nat_le (packed log).next 256000 then packed log else log

-- the first live record at or after an index
unfoldable pub first_live : ℕ → List Entry → Option (ℕ × List ℕ)
first_live from [] = None
first_live from (e ∷ es) = if e.live && nat_le from e.index then Some (e.index, e.payload) else first_live from es

-- the payload of the live record with an index
unfoldable pub live_payload : ℕ → List Entry → Option (List ℕ)
live_payload index [] = None
live_payload index (e ∷ es) = if e.live && (e.index == index) then Some e.payload else live_payload index es

-- where the payload of the live record with an index begins, if the records begin at a place: behind the
-- record's first 24 bytes
unfoldable pub live_place : ℕ → ℕ → List Entry → Option ℕ
live_place place index [] = None
live_place place index (e ∷ es) = if e.live && (e.index == index) then Some (start_of place (record_size (length e.payload)) + 24) else live_place (entry_end place e) index es
