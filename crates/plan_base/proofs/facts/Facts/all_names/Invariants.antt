use Rattle.std.proofs.Common.{◌≡◌, ◌-◌, ◌++◌, Ok}
use Rattle.plan_base.specs.Stops.{◌>>=◌}
use Rattle.plan_base.specs.Asks.{names_from}
use Rattle.plan_base.proofs.facts.Facts.all_names.Given as goal

abbrev pub invariant-loop-part : goal.invariant-loop-part
invariant-loop-part l = (names_from l.self l.fid l.layout l.part (l.parts - l.part) >>= (λ more. Ok (l.entries ++ more))) ≡ names_from l.self l.fid l.layout 0 l.parts
