-- What a planner with true answers decides.
use Rattle.std.specs.Prelude.{◌≡◌, ◌≤◌, ◌<◌, ℕ}
use Rattle.tree_model.specs.declared.op.Op.{Op}
use Rattle.tree_model.specs.Keys.{Laid}
use Rattle.tree_model.specs.Step.{step}
use Rattle.tree_model.specs.Striped.{on}
use Rattle.striped_dir.specs.declared.plan.Decision.{Decision}
use Rattle.striped_dir.specs.declared.plan.Step.TheVariants as steps
use Rattle.tree_sound.specs.Sound.{IsSound}
use Rattle.tree_shares.specs.Parts.{parts}
use Rattle.plan_base.specs.Told.{Told}
use Rattle.plan_base.specs.Planners.{reached, step_at}
use Rattle.plan_laws.specs.Truth.{IsTrueOf}

-- the reply of the tree's step, and on each target that it is on the updates of the operation there
pub record IsTrees (targets batch : ℕ) (l : Laid) (op : Op) (d : Decision) : Type 0 where
  pub reply : d.reply ≡ (step targets l.tree op).1
  pub parts : d.parts ≡ parts targets batch l op
  pub on : d.on ≡ on targets l op

abbrev pub DecisionsAreTheTrees : Type 0
DecisionsAreTheTrees =
    (targets most batch : ℕ) (l : Laid) (op : Op) (t : Told) (d : Decision) → 1 ≤ targets → targets ≤ 16 → IsSound targets most l → most < 0x0ffffffe → IsTrueOf l t
    → step_at targets op (reached targets batch op t) ≡ steps.Decided d → IsTrees targets batch l op d
