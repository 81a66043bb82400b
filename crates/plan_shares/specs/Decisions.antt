-- What is so of every decision, whatever was told.
use Rattle.std.specs.Prelude.{◌≡◌, ◌≤◌, ◌+◌, ℕ, true, List, [], ◌∷◌, length, Some, Ok}
use Rattle.out_update.specs.declared.update.Update.{Update}
use Rattle.tree_model.specs.declared.op.Op.{Op}
use Rattle.tree_model.specs.declared.op.Op.TheVariants as ops
use Rattle.tree_model.specs.declared.reply.Reply.TheVariants as replies
use Rattle.tree_model.specs.Participants.{home_of}
use Rattle.update_record.specs.Spelling.{has_target, targets_from}
use Rattle.plan_base.specs.declared.outcome.Outcome.{Outcome}
use Rattle.plan_base.specs.Told.{Told}
use Rattle.plan_base.specs.Planners.{decision_of, reached}

-- each target is below 16 and above the one before
abbrev pub Rise : ℕ → List (ℕ × List Update) → Type 0
Rise least [] = Unit {0}
Rise least (part ∷ parts) = (least ≤ part.0) × (part.0 ≤ 15) × Rise (part.0 + 1) parts

-- the parts are of rising targets of the cluster, as an update record has them
abbrev pub PartsRise : Type 0
PartsRise = (targets : ℕ) (op : Op) (o : Outcome) → targets ≤ 16 → Rise 0 (decision_of targets op o).parts × (length (decision_of targets op o).parts ≤ targets)

-- the home has a part
abbrev pub HomesTakePart : Type 0
HomesTakePart =
    (targets : ℕ) (op : Op) (o : Outcome) (home : ℕ) → 1 ≤ targets → home_of targets op ≡ Some home
    → (has_target home (decision_of targets op o).parts ≡ true) × (1 ≤ length (decision_of targets op o).parts)

-- it is on the targets of its parts
abbrev pub OnItsParts : Type 0
OnItsParts = (targets : ℕ) (op : Op) (o : Outcome) → (decision_of targets op o).on ≡ targets_from 0 (decision_of targets op o).parts

-- operations that may change something
abbrev pub IsWriting : Op → Type 0
IsWriting (ops.Lookup parent name) = ⊥
IsWriting (ops.GetAttr fid) = ⊥
IsWriting (ops.GetXattr fid name) = ⊥
IsWriting op = Unit {0}

-- such an operation is refused, or its reply is that it is done
abbrev pub WritersReplyOk : Type 0
WritersReplyOk = (targets batch : ℕ) (op : Op) (t : Told) (o : Outcome) → IsWriting op → reached targets batch op t ≡ Ok o → o.reply ≡ replies.Ok
