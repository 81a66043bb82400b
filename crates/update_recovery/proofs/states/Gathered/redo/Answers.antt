use Rattle.update_recovery.proofs.Begun.{redone_idle}
use Rattle.update_recovery.proofs.states.Gathered.redo.Goals as goal

pub returns-in-Ok-clause-idle : goal.returns-in-Ok-clause-idle
returns-in-Ok-clause-idle g c =
    let was = c.self.inside in
    redone_idle g.D.Disk.shown was.bounds.epoch was.bounds.marks.items was.union.keys was.nodes c.redo.new.self c.in-Ok.ensures.done c.self.invariant
