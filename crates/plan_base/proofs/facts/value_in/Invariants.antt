use Rattle.std.proofs.Common.{◌≡◌, drop}
use Rattle.plan_base.specs.Told.{value_in}
use Rattle.plan_base.proofs.facts.value_in.Given as goal

abbrev pub invariant-loop-fact : goal.invariant-loop-fact
invariant-loop-fact l = value_in (drop l.fact-index l.facts) l.fid l.name ≡ value_in l.fn.facts l.fid l.name
