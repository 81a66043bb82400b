use Rattle.std.proofs.Common.{◌≡◌, Option, ap, sym, subst, ◌∙◌}
use Rattle.target_turns.specs.Target.{Target}
use Rattle.target_turns.specs.Touching.{Touches}
use Rattle.target_turns.specs.Placing.{target_as, target_of}
use Rattle.target_turns.specs.declared.target.Halted.{Halted}
use Rattle.target_turns.specs.declared.target.State.{State}
use Rattle.target_turns.proofs.Placed.{placed_touches}
use Rattle.target_turns.proofs.target.Target.start.Goals as goal

-- src/founding.rt:208:5
pub returns-clause-touches : goal.returns-clause-touches
returns-clause-touches g c =
    let shown = g.D.Disk.shown in
    let inside = c.self.inside in
    let state = c.in-Some.state in
    let new = (target_as shown inside.cluster inside.index c.start-state.result.0).disk in
    subst (λ (t : Target). Touches t.disk new) (sym (ap (target_of shown inside.cluster inside.index) (sym c.take.ensures.value ∙ c.in-Some.is)) ∙ c.self.view_is)
    (placed_touches shown inside.cluster inside.index state new (subst (λ h. Touches (shown h.disk) new) c.into_halted.ensures c.start-state.ensures.touches))
