use Rattle.std.proofs.Common.{◌≡◌, ◌++◌, drop}
use Rattle.plan_base.specs.Planners.{part_for}
use Rattle.plan_base.proofs.gathering.part_for.Given as goal

abbrev pub invariant-loop-pair : goal.invariant-loop-pair
invariant-loop-pair l = l.part ++ part_for l.target (drop l.pair-index l.placed) ≡ part_for l.target l.fn.placed
