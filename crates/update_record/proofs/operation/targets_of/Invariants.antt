use Rattle.std.proofs.Common.{◌≡◌, drop}
use Rattle.update_record.specs.Spelling.{targets_from}
use Rattle.update_record.proofs.operation.targets_of.Given as goal

abbrev pub invariant-loop-part : goal.invariant-loop-part
invariant-loop-part l = targets_from l.targets (drop l.part-index l.parts) ≡ targets_from 0 l.parts
