use Rattle.std.proofs.Common.{◌≡◌, drop}
use Rattle.plan_base.specs.Told.{names_in}
use Rattle.plan_base.proofs.facts.names_in.Given as goal

abbrev pub invariant-loop-fact : goal.invariant-loop-fact
invariant-loop-fact l = names_in (drop l.fact-index l.facts) l.directory l.index ≡ names_in l.fn.facts l.directory l.index
