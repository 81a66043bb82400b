use Rattle.std.proofs.Common.{◌≡◌, drop}
use Rattle.plan_base.specs.Planners.{has_part}
use Rattle.plan_base.proofs.gathering.has_part.Given as goal

abbrev pub invariant-loop-pair : goal.invariant-loop-pair
invariant-loop-pair l = has_part l.target (drop l.pair-index l.placed) ≡ has_part l.target l.fn.placed
