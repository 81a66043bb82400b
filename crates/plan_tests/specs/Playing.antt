-- What the objects of targets need of a planner's steps.
use Rattle.std.specs.Prelude.{◌≤◌, ℕ, All, List}
use Rattle.out_update.specs.declared.update.Update.{Update}
use Rattle.out_update.specs.Spelling.{FitsUpdate}
use Rattle.striped_dir.specs.declared.plan.Step.{Step}
use Rattle.striped_dir.specs.declared.plan.Step.TheVariants as steps
use Rattle.plan_base.specs.Planners.{Planning, FitsNeed}
use Rattle.plan_record.specs.Recorded.{MayPlan}
use Rattle.plan_tests.specs.declared.any_planner.Which.{Which}
use Rattle.plan_tests.specs.declared.any_planner.Which.TheVariants as which

-- the planner of an operation as a value, whichever it is
abbrev pub planning_of : Which → Planning
planning_of (which.Plain p) = p
planning_of (which.Rename p) = p
planning_of (which.Migrate p) = p

-- its operation and its batch may be planned
abbrev pub MayPlay : Planning → Type 0
MayPlay p = (1 ≤ p.batch) × MayPlan p.targets p.batch p.op

-- parts of a decision whose updates have a spelling
abbrev pub AreSpelled : List (ℕ × List Update) → Type 0
AreSpelled parts = All (λ (part : ℕ × List Update). All FitsUpdate part.1) parts

-- a need may be asked, and a decision applied
abbrev pub MayBePlayed : Step → Type 0
MayBePlayed (steps.Need n) = FitsNeed n
MayBePlayed (steps.Decided d) = AreSpelled d.parts
