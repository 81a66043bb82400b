-- What a home needs of a planner's steps: questions that may be sent, and decisions that may be recorded.
use Rattle.std.specs.Prelude.{◌<◌, ℕ, All, List, None}
use Rattle.out_update.specs.declared.update.Update.{Update}
use Rattle.tree_model.specs.declared.op.Op.{Op}
use Rattle.striped_dir.specs.declared.plan.Step.{Step}
use Rattle.striped_dir.specs.declared.plan.Step.TheVariants as steps
use Rattle.striped_dir.specs.declared.plan.Decision.{Decision}
use Rattle.plan_base.specs.Told.{untold}
use Rattle.plan_base.specs.Heard.{IsHeard}
use Rattle.plan_base.specs.Planners.{Planning, FitsNeed}
use Rattle.plan_record.specs.Recorded.{MayPlan, IsRecorded}
use Rattle.update_coordinator.specs.declared.planning.Which.{Which}
use Rattle.update_coordinator.specs.declared.planning.Which.TheVariants as which

-- the plan of an operation before anything was told
abbrev pub first_planning : ℕ → Op → ℕ → Planning
first_planning targets op batch = record { targets = targets; op = op; batch = batch; told = untold; asked = None }

-- the planner of an operation as a value, whichever it is
abbrev pub planning_of : Which → Planning
planning_of (which.Plain p) = p
planning_of (which.Rename p) = p
planning_of (which.Migrate p) = p

-- a plan whose decision may be recorded
abbrev pub FitsPlan : Planning → Type 0
FitsPlan p = MayPlan p.targets p.batch p.op × IsHeard p.told

-- a decision that may be recorded, on targets that there may be
abbrev pub FitsDecided : Planning → Decision → Type 0
FitsDecided p d = All (λ (part : ℕ × List Update). part.0 < 16) d.parts × IsRecorded p.targets p.batch p.op d

-- a question that may be sent
abbrev pub FitsStep : Planning → Step → Type 0
FitsStep p (steps.Need n) = FitsNeed n
FitsStep p (steps.Decided d) = FitsDecided p d
