-- What holds of a coordinator between two calls, and what it may hear.
use Rattle.std.specs.Prelude.{◌≡◌, ℕ, ◌+◌, ◌<◌, ◌≤◌, ◌^◌, All, false, Option, Some, None}
use Rattle.tree_model.specs.declared.op.Request.{Request}
use Rattle.tree_model.specs.OpText.{IsOp}
use Rattle.tree_model.specs.Participants.{home_of}
use Rattle.update_record.specs.Spelling.{FitsRecord}
use Rattle.striped_dir.specs.declared.plan.Decision.{Decision}
use Rattle.plan_base.specs.Heard.{IsHeard}
use Rattle.plan_base.specs.Planners.{Planning, FitsNeed}
use Rattle.plan_record.specs.Recorded.{MayPlan, reads}
use Rattle.update_coordinator.specs.Planned.{FitsDecided}
use Rattle.update_coordinator.specs.declared.words.Action.{Action}
use Rattle.update_coordinator.specs.declared.words.Action.TheVariants as actions
use Rattle.update_coordinator.specs.declared.words.Event.{Event}
use Rattle.update_coordinator.specs.declared.words.Event.TheVariants as events
use Rattle.update_coordinator.specs.declared.words.Held.{Held}
use Rattle.update_coordinator.specs.declared.words.Going.{Going}
use Rattle.update_coordinator.specs.declared.words.Course.{Course}
use Rattle.update_coordinator.specs.declared.words.Waits.{Waits}
use Rattle.update_coordinator.specs.declared.words.Waits.TheVariants as waits

-- a request of a client that comes to its home in a cluster of so many targets
pub record IsRequest (targets master : ℕ) (r : Request) : Type 0 where
  pub number_set : 1 ≤ r.number
  pub number : r.number ≤ 65536
  pub client : r.client < 64
  pub op : IsOp targets r.op
  pub home : home_of targets r.op ≡ Some master

-- an attempt plans its own request, for the next batch of its home
pub record IsPlanned (targets master batch : ℕ) (p : Planning) (r : Request) : Type 0 where
  pub request : IsRequest targets master r
  pub targets_same : p.targets ≡ targets
  pub op_same : p.op ≡ r.op
  pub batch_next : p.batch ≡ batch
  pub may_plan : MayPlan p.targets p.batch p.op
  pub heard : IsHeard p.told

-- ---- what is kept of an attempt between two calls

abbrev pub FitsCourse : ℕ → ℕ → ℕ → Course → Type 0
FitsCourse targets master batches k = All (λ (h : Held). h.clock < 2 ^ 63) k.held × IsPlanned targets master (batches + 1) k.planner k.request

-- a decision of an operation that isn't a read
abbrev pub FitsDecision : Course → Decision → Type 0
FitsDecision k d = FitsDecided k.planner d × (reads k.request.op ≡ false)

abbrev pub FitsWaits : Course → Waits → Type 0
FitsWaits k (waits.Look n) = FitsNeed n
FitsWaits k (waits.Hold d t) = FitsDecision k d × (t < 16)
FitsWaits k (waits.Sync d synced t writer) = FitsDecision k d × (t < 16)

abbrev pub FitsGoing : ℕ → ℕ → ℕ → Going → Type 0
FitsGoing targets master batches g = FitsCourse targets master batches g.course × FitsWaits g.course g.waits

abbrev pub FitsCurrent : ℕ → ℕ → ℕ → Option Going → Type 0
FitsCurrent targets master batches None = Unit {0}
FitsCurrent targets master batches (Some g) = FitsGoing targets master batches g

-- ---- what may be heard: clocks don't run over, and targets are targets

abbrev pub MayHear : Event → Type 0
MayHear (events.Fact f) = f.clock < 2 ^ 63
MayHear (events.Busy holder) = Unit {0}
MayHear (events.Down t) = t < 16
MayHear events.Synced = Unit {0}
MayHear (events.Executed t attempt) = t < 16
MayHear (events.Released t attempt) = t < 16

-- ---- what an action sends has a spelling

abbrev pub FitsAction : Action → Type 0
FitsAction (actions.Ask n) = FitsNeed n
FitsAction (actions.HoldOnly t) = t < 16
FitsAction (actions.Sync t writer) = t < 16
FitsAction (actions.Accept r) = FitsRecord r
FitsAction _ = Unit {0}
