use Rattle.std.proofs.Common.{◌≡◌, drop}
use Rattle.plan_base.specs.Told.{count_in}
use Rattle.plan_base.proofs.facts.count_in.Given as goal

abbrev pub invariant-loop-fact : goal.invariant-loop-fact
invariant-loop-fact l = count_in (drop l.fact-index l.facts) l.directory l.index ≡ count_in l.fn.facts l.directory l.index
