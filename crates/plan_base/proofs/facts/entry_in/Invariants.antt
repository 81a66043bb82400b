use Rattle.std.proofs.Common.{◌≡◌, drop}
use Rattle.plan_base.specs.Told.{entry_in}
use Rattle.plan_base.proofs.facts.entry_in.Given as goal

abbrev pub invariant-loop-fact : goal.invariant-loop-fact
invariant-loop-fact l = entry_in (drop l.fact-index l.facts) l.directory l.name ≡ entry_in l.fn.facts l.directory l.name
