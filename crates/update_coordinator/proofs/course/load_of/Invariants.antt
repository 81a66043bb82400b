use Rattle.std.proofs.Common.{◌≡◌, drop}
use Rattle.update_coordinator.specs.Rules.{load_from, load_of}
use Rattle.update_coordinator.proofs.course.load_of.Given as goal

abbrev pub invariant-loop-one : goal.invariant-loop-one
invariant-loop-one l = load_from l.target l.load (drop l.one-index l.held) ≡ load_of l.held l.target
