use Rattle.std.proofs.Common.{◌≡◌, drop}
use Rattle.update_record.specs.Spelling.{part_for}
use Rattle.update_record.proofs.operation.updates_for.Given as goal

abbrev pub invariant-loop-part : goal.invariant-loop-part
invariant-loop-part l = part_for l.target (drop l.part-index l.parts) ≡ part_for l.target l.parts
