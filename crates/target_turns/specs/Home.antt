-- What a home does for an attempt, from what its coordinator says.
use Rattle.std.specs.Prelude.{ℕ, zero, suc, ◌+◌, Bool, true, false, not, ◌==◌, ◌&&◌, if◌then◌else◌, List, [], ◌∷◌, ◌++◌, length, Option, Some, None}
use Rattle.std.specs.List.{flat_map}
use Rattle.fid_space.specs.Targets.{is_member}
use Rattle.out_update.specs.declared.update.Update.{Update}
use Rattle.tree_model.specs.declared.op.Request.{Request}
use Rattle.tree_model.specs.declared.reply.Reply.{Reply}
use Rattle.striped_dir.specs.declared.plan.Need.{Need}
use Rattle.update_record.specs.declared.message.Attempt.{Attempt}
use Rattle.update_record.specs.declared.message.Message.{Message}
use Rattle.update_record.specs.declared.operation.Record.{Record}
use Rattle.update_record.specs.Spelling.{targets_from}
use Rattle.scenario_text.specs.declared.line.Line.{Line}
use Rattle.scenario_text.specs.declared.line.Line.TheVariants as lines
use Rattle.target_state.specs.Commit.{is_empty}
use Rattle.target_state.specs.Image.{state_text}
use Rattle.target_state.specs.Rules.{facts, after_hold, after_execute, after_release}
use Rattle.update_coordinator.specs.declared.words.Action.{Action}
use Rattle.update_coordinator.specs.declared.words.Action.TheVariants as actions
use Rattle.update_coordinator.specs.declared.words.Event.{Event}
use Rattle.update_coordinator.specs.declared.words.Event.TheVariants as events
use Rattle.update_coordinator.specs.Coordinating.{Coordinating}
use Rattle.update_coordinator.specs.Rules.{all_targets, heard, started}
use Rattle.cluster_mail.specs.Asking.{hold_message, sync_message, execute_message, release_message}
use Rattle.target_turns.specs.Target.{Target, Fate, Turned, quiet, says, sends, joins, serves}
use Rattle.target_turns.specs.Marks.{syncing}

-- ---- messages

-- another target that takes part gets the record
abbrev pub execute_to : Attempt → ℕ → Record → ℕ → List Message
execute_to by index r to = if is_member (targets_from 0 r.parts) to && not (to == index) then execute_message by to r ∷ [] else []

unfoldable pub executes : Attempt → ℕ → Record → List Message
executes by index r = flat_map (execute_to by index r) all_targets

-- a target of a set is let go
abbrev pub release_to : Attempt → ℕ → ℕ → List Message
release_to by on to = if is_member on to then release_message by to ∷ [] else []

unfoldable pub releases : Attempt → ℕ → List Message
releases by on = flat_map (release_to by on) all_targets

-- the attempt that began last
abbrev pub own_attempt : Target → ℕ → Attempt
own_attempt t number = record { epoch = t.node.epoch; master = t.index; attempt = t.home.attempts; number = number }

-- ---- what a home does by itself, without a disk call

-- a target, and what its coordinator says next
pub record Walked : Type 0 where
  pub target : Target
  pub action : Action

abbrev pub hears : Target → Event → Walked
hears t e = record { target = record t { home = (heard t.home e).after }; action = (heard t.home e).action }

-- it looks at an object of its own, while the attempt holds it
abbrev pub looks : Target → Update → Walked
looks t u = hears t (events.Fact (facts t.node (length (state_text t.node)) (u ∷ [])))

-- one step: a look at home, or a commit at home where nothing waits for one
abbrev pub step_at_home : Target → Action → Option Walked
step_at_home t (actions.Ask n) = if n.target == t.index then Some (looks t n.ask) else None
step_at_home t (actions.Sync to writer) = if (to == t.index) && is_empty t.node.waiting then Some (hears t events.Synced) else None
step_at_home t _ = None

abbrev pub then_walks : Option Walked → Walked → (Walked → Walked) → Walked
then_walks None here on = here
then_walks (Some w) here on = on w

-- so many of them at most
unfoldable pub walked : ℕ → Target → Action → Walked
walked zero t a = record { target = t; action = a }
walked (suc n) t a = then_walks (step_at_home t a) (record { target = t; action = a }) (λ w. walked n w.target w.action)

abbrev pub most_steps : ℕ
most_steps = 18446744073709551615

abbrev pub walks : Target → Action → Walked
walks t a = walked most_steps t a

-- ---- what it does then

-- an attempt that accepts nothing is over: the home lets go, and the targets that were asked
abbrev pub ends_with : Attempt → Target → Line → Turned
ends_with by t line = record { target = record t { node = after_release t.node by }; lines = line ∷ []; sent = releases by t.home.released }

-- an operation is accepted: the part of the home is executed, and the others get the record
abbrev pub accepts : Attempt → Target → Record → Turned
accepts by t r =
    record {
      target = record t { node = after_execute t.node by r };
      lines = lines.Accept r.number r.reply (targets_from 0 r.parts) ∷ lines.Reply r.number r.reply ∷ [];
      sent = executes by t.index r ++ releases by t.home.released;
    }

-- a target is asked, or the attempt is over
abbrev pub finishes : Attempt → Target → Action → Turned
finishes by t (actions.Ask n) = sends t (hold_message by n.target t.home.asks (n.ask ∷ []) ∷ [])
finishes by t (actions.HoldOnly to) = sends t (hold_message by to t.home.asks [] ∷ [])
finishes by t (actions.Sync to writer) = sends t (sync_message by to t.home.asks writer ∷ [])
finishes by t (actions.Accept r) = accepts by t r
finishes by t (actions.Answer v) = ends_with by t (lines.Reply by.number v)
finishes by t (actions.Busy m) = ends_with by t (lines.Busy by.number m)
finishes by t (actions.Full to load need) = ends_with by t (lines.Full by.number to load need)
finishes by t (actions.Recovering to) = ends_with by t (lines.Recovering by.number to)
finishes by t actions.Nothing = quiet t

abbrev pub finishes_walk : Attempt → Walked → Turned
finishes_walk by w = finishes by w.target w.action

-- the request on account of whose writes the home has to commit
abbrev pub writer_at : ℕ → Action → Option ℕ
writer_at index (actions.Sync to writer) = if to == index then Some writer else None
writer_at index _ = None

-- after a commit of the home, where it still serves
abbrev pub goes_on_synced : Attempt → Turned → Turned
goes_on_synced by u = if serves u.target then joins u (finishes_walk by (walks (hears u.target events.Synced).target (hears u.target events.Synced).action)) else u

abbrev pub commits_or_finishes : Attempt → Walked → Fate → Option ℕ → Turned
commits_or_finishes by w f None = finishes_walk by w
commits_or_finishes by w f (Some writer) = goes_on_synced by (syncing by.number writer w.target f)

-- what an attempt does until it waits for another target or is over
abbrev pub goes_on : Attempt → Walked → Fate → Turned
goes_on by w f = commits_or_finishes by (walks w.target w.action) f (writer_at w.target.index (walks w.target w.action).action)

-- ---- what it hears of others

-- what the attempt of this request waits for has come
abbrev pub hears_awaited : Target → ℕ → Event → Fate → Turned
hears_awaited t number e f = goes_on (own_attempt t number) (hears t e) f

-- a request comes: the coordinator begins an attempt
abbrev pub starts : Target → Request → Walked
starts t r = record { target = record t { home = (started t.home r (length (state_text t.node)) t.node.clock).after }; action = (started t.home r (length (state_text t.node)) t.node.clock).action }

-- the attempt of a request that comes
abbrev pub new_attempt : Target → Request → Attempt
new_attempt t r = own_attempt (starts t r).target r.number

-- it holds the home
abbrev pub holds_home : Target → Request → Walked
holds_home t r = record { target = record (starts t r).target { node = after_hold t.node (new_attempt t r) }; action = (starts t r).action }

abbrev pub begins : Target → Request → Fate → Turned
begins t r f = goes_on (new_attempt t r) (holds_home t r) f
