use Rattle.std.proofs.Common.{◌≡◌, ◌-◌, ◌&&◌, Ok}
use Rattle.plan_base.specs.Stops.{◌>>=◌}
use Rattle.plan_base.specs.Asks.{none_told}
use Rattle.plan_base.proofs.facts.Facts.is_empty.Given as goal

abbrev pub invariant-loop-index : goal.invariant-loop-index
invariant-loop-index l = (none_told l.self l.fid l.layout l.index (l.parts - l.index) >>= (λ rest. Ok (l.is_empty && rest))) ≡ none_told l.self l.fid l.layout 0 l.parts
