-- The messages that are sent again, while they have no answer.
use Rattle.std.specs.Prelude.{ℕ, ◌==◌, if◌then◌else◌, List, [], ◌∷◌, ◌++◌, Option, Some, None}
use Rattle.std.specs.List.{flat_map}
use Rattle.fid_space.specs.Targets.{is_member}
use Rattle.out_update.specs.declared.update.Update.{Update}
use Rattle.out_update.specs.Spelling.{request_text}
use Rattle.update_record.specs.declared.message.Message.{Message}
use Rattle.update_record.specs.declared.message.MessageKind.TheVariants as kind
use Rattle.update_record.specs.declared.operation.Record.{Record}
use Rattle.update_record.specs.Spelling.{record_text}
use Rattle.update_coordinator.specs.declared.words.Flight.{Flight}
use Rattle.update_coordinator.specs.declared.words.Going.{Going}
use Rattle.update_coordinator.specs.declared.words.Waits.{Waits}
use Rattle.update_coordinator.specs.declared.words.Waits.TheVariants as waits
use Rattle.update_coordinator.specs.Coordinating.{Coordinating}
use Rattle.update_coordinator.specs.Rules.{all_targets}
use Rattle.update_coordinator.specs.Marks.{waits_at}

-- the last ask of the attempt that is under way, as a Hold with a question or none
abbrev pub hold_message : Coordinating → ℕ → ℕ → List Update → Message
hold_message c number t question =
    record { kind = kind.Hold; epoch = c.epoch; from = c.master; to = t; number = number; attempt = c.attempts; ask = c.asks; value = 0; body = request_text question }

-- the same as a Sync, where this request wrote
abbrev pub sync_message : Coordinating → ℕ → ℕ → ℕ → Message
sync_message c number t writer = record { kind = kind.Sync; epoch = c.epoch; from = c.master; to = t; number = number; attempt = c.attempts; ask = c.asks; value = writer; body = [] }

abbrev pub ask_message : Coordinating → ℕ → Waits → Message
ask_message c number (waits.Look n) = hold_message c number n.target (n.ask ∷ [])
ask_message c number (waits.Hold d t) = hold_message c number t []
ask_message c number (waits.Sync d synced t writer) = sync_message c number t writer

-- what is awaited of another target; the home asks itself without a message
abbrev pub asks_of : Coordinating → Option Going → List Message
asks_of c None = []
asks_of c (Some g) = if waits_at g.waits == c.master then [] else ask_message c g.course.request.number g.waits ∷ []

abbrev pub execute_message : Coordinating → Flight → Record → ℕ → Message
execute_message c f r t = record { kind = kind.Execute; epoch = c.epoch; from = c.master; to = t; number = f.number; attempt = f.attempt; ask = 0; value = 0; body = record_text r }

abbrev pub release_message : Coordinating → Flight → ℕ → Message
release_message c f t = record { kind = kind.Release; epoch = c.epoch; from = c.master; to = t; number = f.number; attempt = f.attempt; ask = 0; value = 0; body = [] }

-- an Execute to a target that owes its answer
unfoldable pub execute_to : Coordinating → Flight → Record → ℕ → List Message
execute_to c f r t = if is_member f.executes t then execute_message c f r t ∷ [] else []

unfoldable pub release_to : Coordinating → Flight → ℕ → List Message
release_to c f t = if is_member f.releases t then release_message c f t ∷ [] else []

abbrev pub executes_to : Coordinating → Flight → Option Record → List ℕ → List Message
executes_to c f None ts = []
executes_to c f (Some r) ts = flat_map (execute_to c f r) ts

abbrev pub releases_to : Coordinating → Flight → List ℕ → List Message
releases_to c f ts = flat_map (release_to c f) ts

unfoldable pub executes_from : Coordinating → Flight → List Message
executes_from c f = executes_to c f f.accepted all_targets

unfoldable pub releases_from : Coordinating → Flight → List Message
releases_from c f = releases_to c f all_targets

-- The awaited Hold or Sync, then the Executes, then the Releases, each by attempt and target.
abbrev pub resent : Coordinating → List Message
resent c = asks_of c c.current ++ (flat_map (executes_from c) c.flights ++ flat_map (releases_from c) c.flights)
