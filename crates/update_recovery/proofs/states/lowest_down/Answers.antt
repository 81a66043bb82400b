use Rattle.update_recovery.proofs.Begun.{none_down}
use Rattle.update_recovery.proofs.states.lowest_down.Goals as goal

pub returns-clause-none : goal.returns-clause-none
returns-clause-none g c = λ _. none_down c.loop-place.place c.args.targets.now c.loop-place-test.false c.loop-place.invariant
