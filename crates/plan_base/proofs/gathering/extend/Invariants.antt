use Rattle.std.proofs.Common.{◌≡◌, ◌++◌, take}
use Rattle.plan_base.proofs.gathering.extend.Given as goal

abbrev pub invariant-loop-i : goal.invariant-loop-i
invariant-loop-i l = l.part ≡ l.fn.part ++ take l.i l.more
