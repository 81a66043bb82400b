use Rattle.std.proofs.Common.{◌≡◌, ◌++◌, drop}
use Rattle.out_update.proofs.parts.Parts.copy.Given as goal

abbrev pub invariant-loop-part : goal.invariant-loop-part
invariant-loop-part l = l.copy ++ drop l.part-index l.self ≡ l.self
