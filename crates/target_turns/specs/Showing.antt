-- What is shown of a target: which records its update log has, and messages as a transcript names them.
use Rattle.std.specs.Prelude.{◌≡◌, ℕ, zero, suc, ◌+◌, ◌-◌, nat_lt, Bool, true, false, if◌then◌else◌, List, [], ◌∷◌, map, Option, Some, None}
use Rattle.std.specs.List.{flat_map}
use Rattle.llog_store.specs.Log.{Entry, live_count}
use Rattle.llog_store.specs.Changes.{first_live}
use Rattle.object_store.specs.Objects.{ObjectMap}
use Rattle.update_record.specs.declared.message.Message.{Message}
use Rattle.update_record.specs.declared.message.MessageKind.{MessageKind}
use Rattle.update_record.specs.declared.message.MessageKind.TheVariants as kind
use Rattle.update_record.specs.declared.operation.Record.{Record}
use Rattle.update_record.specs.Spelling.{FitsRecord, targets_from}
use Rattle.update_record.specs.Values.{record_value}
use Rattle.target_state.specs.State.{TargetState}
use Rattle.scenario_text.specs.declared.line.Line.{Line}
use Rattle.scenario_text.specs.declared.line.Line.TheVariants as lines
use Rattle.scenario_text.specs.declared.line.Standing.{Standing}
use Rattle.scenario_text.specs.declared.line.Standing.TheVariants as standing
use Rattle.scenario_text.specs.declared.logged.Logged.{Logged}
use Rattle.scenario_text.specs.declared.message.Kind.{Kind}
use Rattle.scenario_text.specs.declared.message.Kind.TheVariants as kinds
use Rattle.scenario_text.specs.declared.message.Sender.{Sender}
use Rattle.scenario_text.specs.declared.message.Sender.TheVariants as senders
use Rattle.target_turns.specs.Target.{Target}

abbrev pub is_down : Standing → Bool
is_down standing.Down = true
is_down _ = false

-- ---- the records of a log

-- where there is one, it comes before the rest, which begins behind it
abbrev pub then_live : Option (ℕ × List ℕ) → (ℕ → List (ℕ × List ℕ)) → List (ℕ × List ℕ)
then_live None rest = []
then_live (Some x) rest = x ∷ rest (x.0 + 1)

-- so many live records at most, the first of them at an index or behind it: their indexes and payloads
unfoldable pub live_from : ℕ → ℕ → List Entry → List (ℕ × List ℕ)
live_from zero from es = []
live_from (suc n) from es = then_live (first_live from es) (λ next. live_from n next es)

-- all live records, in the order of their indexes
abbrev pub live_records : List Entry → List (ℕ × List ℕ)
live_records es = live_from (live_count es) 1 es

-- the first live record at an index or behind it is this one
abbrev pub IsNext : ℕ → List Entry → Option (ℕ × Record) → Type 0
IsNext from es None = first_live from es ≡ None
IsNext from es (Some x) = (payload : List ℕ) × (first_live from es ≡ Some (x.0, payload)) × (record_value payload ≡ Some x.1) × FitsRecord x.1

abbrev pub numbers_in : Option Record → List ℕ
numbers_in None = []
numbers_in (Some r) = r.number ∷ []

-- the number of the request whose record this is
abbrev pub number_of : ℕ × List ℕ → List ℕ
number_of x = numbers_in (record_value x.1)

-- the numbers of the requests whose records are live, in the order of the log
abbrev pub held_numbers : TargetState → List ℕ
held_numbers s = flat_map number_of (live_records s.log.entries)

-- what a transcript shows of a record
abbrev pub logged : ℕ → Record → Logged
logged index r = record { index = index; epoch = r.id.epoch; master = r.id.master; batch = r.id.batch; number = r.number; on = targets_from 0 r.parts }

abbrev pub entry_lines : ℕ → Option Record → List Line
entry_lines index None = []
entry_lines index (Some r) = lines.LogEntry (logged index r) ∷ []

abbrev pub lines_of : ℕ × List ℕ → List Line
lines_of x = entry_lines x.0 (record_value x.1)

abbrev pub log_lines : ℕ → List Entry → List Line
log_lines index es = lines.Log index (live_count es) ∷ flat_map lines_of (live_records es)

-- the lines of the log of a target that isn't down, or what it does
abbrev pub shows_log : Target → List Line
shows_log t = if is_down t.standing then lines.State t.index t.standing ∷ [] else log_lines t.index t.node.log.entries

-- ---- objects

-- what a target has, where it isn't down
abbrev pub objects_of : Target → Option ObjectMap
objects_of t = if is_down t.standing then None else Some t.node.objects

-- ---- messages

abbrev pub kind_of : MessageKind → Kind
kind_of kind.Request = kinds.Request
kind_of kind.Hold = kinds.Hold
kind_of kind.Held = kinds.Held
kind_of kind.HoldBusy = kinds.HoldBusy
kind_of kind.Sync = kinds.Sync
kind_of kind.Synced = kinds.Synced
kind_of kind.Execute = kinds.Execute
kind_of kind.Executed = kinds.Executed
kind_of kind.Release = kinds.Release
kind_of kind.Released = kinds.Released
kind_of kind.Stable = kinds.Stable
kind_of kind.Cancel = kinds.Cancel

-- clients are numbered from 256 on
abbrev pub sender_of : ℕ → Sender
sender_of from = if nat_lt from 256 then senders.Target from else senders.Client (from - 256)

-- the line that shows a message with its number
abbrev pub line_of : ℕ → Message → Line
line_of k m = lines.Message k (kind_of m.kind) m.number (sender_of m.from) m.to
