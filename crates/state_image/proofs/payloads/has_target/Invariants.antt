use Rattle.std.proofs.Common.{◌≡◌, drop}
use Rattle.update_record.specs.Spelling.{has_target}
use Rattle.state_image.proofs.payloads.has_target.Given as goal

abbrev pub invariant-loop-part : goal.invariant-loop-part
invariant-loop-part l = has_target l.target (drop l.part-index l.parts) ≡ has_target l.target l.parts
