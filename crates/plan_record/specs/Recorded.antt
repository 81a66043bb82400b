-- What a record needs of the decision that it keeps, and that each decision has it, whatever was told.
use Rattle.std.specs.Prelude.{◌≡◌, ◌≤◌, ◌<◌, ◌^◌, ◌+◌, ℕ, Bool, true, false, length, Option, Some}
use Rattle.out_update.specs.declared.result.UpdateResult.{UpdateResult}
use Rattle.tree_model.specs.declared.op.Op.{Op}
use Rattle.tree_model.specs.declared.op.Op.TheVariants as ops
use Rattle.tree_model.specs.OpText.{IsOp}
use Rattle.tree_model.specs.Participants.{home_of}
use Rattle.update_record.specs.declared.operation.Record.{Record}
use Rattle.update_record.specs.Spelling.{is_answer, has_target, targets_from, parts_text, FitsParts, FitsRecord}
use Rattle.striped_dir.specs.declared.plan.Step.TheVariants as steps
use Rattle.striped_dir.specs.declared.plan.Decision.{Decision}
use Rattle.plan_base.specs.Heard.{IsHeard}
use Rattle.plan_base.specs.Planners.{Planning, after_fact, step_after}

-- an operation that changes nothing, and that no record keeps
abbrev pub reads : Op → Bool
reads (ops.Lookup parent name) = true
reads (ops.GetAttr fid) = true
reads (ops.GetXattr fid name) = true
reads _ = false

-- What the record of a decision needs, beside its numbers: each update has a spelling with this batch, the
-- targets rise and are those that the operation is on, the home among them, and all is short.
pub record IsRecorded (targets batch : ℕ) (op : Op) (d : Decision) : Type 0 where
  pub answer : reads op ≡ false → is_answer d.reply ≡ true
  pub some_part : 1 ≤ length d.parts
  pub few_parts : length d.parts ≤ 16
  pub each : FitsParts batch 0 d.parts
  pub home_in : (home : ℕ) → home_of targets op ≡ Some home → has_target home d.parts ≡ true
  pub size : 48 + length (parts_text d.parts) ≤ 21984
  pub on : d.on ≡ targets_from 0 d.parts

-- an operation that a text may name in a cluster of so many targets, and the batch of its updates
pub record MayPlan (targets batch : ℕ) (op : Op) : Type 0 where
  pub some : 1 ≤ targets
  pub few : targets ≤ 16
  pub wide : batch < 2 ^ 64
  pub named : IsOp targets op

-- the decision that a step of a planner gives, whatever results it heard
abbrev pub DecisionsAreRecorded : Type 0
DecisionsAreRecorded =
    (p : Planning) (r : Option UpdateResult) (d : Decision) → MayPlan p.targets p.batch p.op → IsHeard (after_fact p r).told → step_after p r ≡ steps.Decided d → IsRecorded p.targets p.batch p.op d

-- a record with the reply and the parts of a decision, of the home of the operation
pub record Records (targets batch : ℕ) (op : Op) (d : Decision) (r : Record) : Type 0 where
  pub change : reads op ≡ false
  pub epoch_set : 1 ≤ r.id.epoch
  pub epoch : r.id.epoch < 2 ^ 32
  pub master : home_of targets op ≡ Some r.id.master
  pub batch_set : 1 ≤ batch
  pub batch_is : r.id.batch ≡ batch
  pub number_set : 1 ≤ r.number
  pub number : r.number ≤ 65536
  pub stamp_set : 1 ≤ r.stamp
  pub stamp : r.stamp < 2 ^ 64
  pub client : r.client ≤ 63
  pub reply : r.reply ≡ d.reply
  pub parts : r.parts ≡ d.parts

-- it has a spelling
abbrev pub RecordsFit : Type 0
RecordsFit = (targets batch : ℕ) (op : Op) (d : Decision) (r : Record) → MayPlan targets batch op → IsRecorded targets batch op d → Records targets batch op d r → FitsRecord r
