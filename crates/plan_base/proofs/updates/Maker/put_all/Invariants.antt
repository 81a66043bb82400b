use Rattle.std.proofs.Common.{◌≡◌, ◌++◌, drop}
use Rattle.plan_base.proofs.updates.Maker.put_all.Given as goal

abbrev pub invariant-loop-target : goal.invariant-loop-target
invariant-loop-target l = l.placed ++ drop l.target-index l.target-items ≡ l.fn.placed ++ l.more
