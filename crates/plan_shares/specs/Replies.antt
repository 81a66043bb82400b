-- How far a planner comes with true answers.
use Rattle.std.specs.Prelude.{◌≡◌, ℕ, List, Result, Ok, Err}
use Rattle.fid_space.specs.declared.fid.Fid.{Fid}
use Rattle.tree_model.specs.declared.op.Op.{Op}
use Rattle.tree_model.specs.declared.reply.Reply.TheVariants as replies
use Rattle.tree_model.specs.Keys.{Laid}
use Rattle.tree_model.specs.Step.{step}
use Rattle.tree_sound.specs.Sound.{IsSound}
use Rattle.plan_base.specs.declared.outcome.Outcome.{Outcome}
use Rattle.plan_base.specs.declared.question.Stop.{Stop}
use Rattle.plan_base.specs.declared.question.Stop.TheVariants as stop
use Rattle.plan_base.specs.Told.{Told}
use Rattle.plan_base.specs.Planners.{reached}
use Rattle.plan_laws.specs.Truth.{IsTrueOf, IsLaid}

-- to a question that the tree's shares can answer, or to the reply of the tree's step
abbrev pub ComesTo : ℕ → Laid → Op → Result Outcome Stop → Type 0
ComesTo targets l op (Ok o) = o.reply ≡ (step targets l.tree op).1
ComesTo targets l op (Err (stop.Refused e)) = replies.Err e ≡ (step targets l.tree op).1
ComesTo targets l op (Err (stop.Ask q)) = IsLaid l q
ComesTo targets l op (Err stop.Memory) = ⊥

abbrev pub RepliesAreTheTrees : Type 0
RepliesAreTheTrees =
    (targets most batch : ℕ) (l : Laid) (op : Op) (t : Told) → IsSound targets most l → IsTrueOf l t
    → ComesTo targets l op (reached targets batch op t)
