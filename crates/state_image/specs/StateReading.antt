-- Reading a state image from left to right: what it holds, or the place of the first field that isn't as stated. The
-- payloads of the live records are judged behind the log, and last that nothing is left.
use Rattle.std.specs.Prelude.{◌≡◌, ℕ, zero, suc, ◌+◌, ◌==◌, Bool, false, if◌then◌else◌, List, length, drop, Option, Some, None, Result, Ok, Err}
use Rattle.std.specs.Int.{w32}
use Rattle.byte_grammar.specs.declared.verdict.Verdict.{Verdict}
use Rattle.byte_grammar.specs.declared.verdict.Verdict.TheVariants as verdict
use Rattle.object_store.specs.Objects.{ObjectMap}
use Rattle.object_store.specs.declared.fault.ImageFault.{ImageFault}
use Rattle.object_store.specs.declared.fault.ImageFault.TheVariants as fault
use Rattle.object_store.specs.ImageReading.{◌>>=◌, at, field_at, number_at, unless_bad, zeros_at, most32, image_at}
use Rattle.llog_store.specs.declared.fault.LlogFault.{LlogFault}
use Rattle.llog_store.specs.declared.fault.LlogFault.TheVariants as llog
use Rattle.llog_store.specs.Log.{Entry, Log}
use Rattle.llog_store.specs.Reading.{log_at}
use Rattle.llog_store.specs.Changes.{live_place, live_payload}
use Rattle.update_record.specs.declared.operation.Record.{Record}
use Rattle.update_record.specs.Values.{record_value}
use Rattle.update_record.specs.Decoding.{judge_record}
use Rattle.state_image.specs.declared.image.Image.{Image}
use Rattle.state_image.specs.FrontReading.{front_in}
use Rattle.state_image.specs.StateText.{is_own}

-- ---- parts that begin at a place, and are read from their own start

abbrev pub moved : ℕ → ImageFault → ImageFault
moved place (fault.BadImage p) = fault.BadImage (place + p)
moved place fault.Memory = fault.Memory

abbrev pub moved_by : {A : Type 0} → ℕ → Result A ImageFault → Result A ImageFault
moved_by place (Ok x) = Ok x
moved_by place (Err e) = Err (moved place e)

-- the fault is the moved one, unless memory ran out
abbrev pub IsMoved : ℕ → ImageFault → ImageFault → Type 0
IsMoved place e fault.Memory = Unit {0}
IsMoved place e (fault.BadImage p) = fault.BadImage p ≡ moved place e

-- what is bad in a log
abbrev pub log_fault : LlogFault → ImageFault
log_fault (llog.BadLength p) = fault.BadImage p
log_fault (llog.BadIndex p) = fault.BadImage p
log_fault (llog.BadType p) = fault.BadImage p
log_fault (llog.BadTail p) = fault.BadImage p
log_fault (llog.BadPadding p) = fault.BadImage p
log_fault (llog.BadBitmap p) = fault.BadImage p
log_fault (llog.Truncated p) = fault.BadImage p
log_fault llog.Memory = fault.Memory

abbrev pub of_log : Result Log LlogFault → Result Log ImageFault
of_log (Ok log) = Ok log
of_log (Err e) = Err (log_fault e)

-- ---- the payloads of a log

-- where the bytes of a payload are no record: at the refused field, or at the end where bytes are missing or left
abbrev pub no_record : ℕ → Verdict → Option ℕ
no_record len verdict.More = Some len
no_record len (verdict.Refused r) = Some r.place
no_record len (verdict.Done end) = if end == len then None else Some len

-- the fault is that
abbrev pub IsNoRecord : ImageFault → ℕ → Verdict → Type 0
IsNoRecord fault.Memory len judged = Unit {0}
IsNoRecord (fault.BadImage p) len judged = no_record len judged ≡ Some p

-- the record that a payload is
unfoldable pub record_in : List ℕ → Result (Option Record) ImageFault
record_in payload = do
  whole ← unless_bad (no_record (length payload) (judge_record payload)) 0 payload
  Ok (record_value whole)

abbrev pub is_own_value : ℕ → ℕ → Option Record → Bool
is_own_value targets index None = false
is_own_value targets index (Some r) = is_own targets index r

-- A payload at a place: a record of this target. One that names wrong targets is bad at its first byte.
unfoldable pub payload_at : ℕ → ℕ → ℕ → List ℕ → Result (Unit {0}) ImageFault
payload_at targets index place payload = do
  found ← moved_by place (record_in payload)
  if is_own_value targets index found then Ok tt else Err (fault.BadImage place)

-- a payload that stands at a place of its log
abbrev pub maybe_payload : ℕ → ℕ → Option ℕ → Option (List ℕ) → Result (Unit {0}) ImageFault
maybe_payload targets index None o = Ok tt
maybe_payload targets index (Some place) None = Ok tt
maybe_payload targets index (Some place) (Some payload) = payload_at targets index place payload

-- the live records with so many indexes, the first of them with this one
unfoldable pub payloads_at : ℕ → ℕ → List Entry → ℕ → ℕ → Result (Unit {0}) ImageFault
payloads_at targets index entries first zero = Ok tt
payloads_at targets index entries first (suc n) = do
  one ← maybe_payload targets index (live_place 32768 first entries) (live_payload first entries)
  payloads_at targets index entries (first + 1) n

-- a log whose live records are of the target
unfoldable pub own_log : ℕ → ℕ → List ℕ → Result Log ImageFault
own_log targets index bytes = do
  log ← of_log (log_at bytes)
  payloads ← payloads_at targets index log.entries 0 log.next
  Ok log

-- ---- the image

unfoldable pub objects_in : ℕ → List ℕ → Result (ObjectMap × List ℕ) ImageFault
objects_in len rest = do
  objects ← moved_by (at len rest) (image_at rest)
  Ok (objects.0, drop objects.1 rest)

-- A length that is above what is left of the input is bad at the input's end.
unfoldable pub log_in : ℕ → ℕ → ℕ → List ℕ → Result (Log × List ℕ) ImageFault
log_in targets index len rest = do
  size ← number_at w32 0 most32 len rest
  space ← zeros_at len 4 size.1
  bytes ← field_at len size.0 space
  log ← moved_by (at len space) (own_log targets index bytes.0)
  Ok (log, bytes.1)

-- what the bytes hold, of a target of so many
unfoldable pub image_in : ℕ → ℕ → List ℕ → Result Image ImageFault
image_in targets index bytes = do
  front ← front_in targets index (length bytes) bytes
  objects ← objects_in (length bytes) front.1
  log ← log_in targets index (length bytes) objects.1
  if length log.1 == 0 then Ok (record { front = front.0; objects = objects.0; log = log.0 }) else Err (fault.BadImage (length bytes))
