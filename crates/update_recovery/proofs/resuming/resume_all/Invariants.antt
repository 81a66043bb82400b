use Rattle.update_recovery.specs.Steps.{HasCome}
use Rattle.update_recovery.specs.Resuming.{Resumes}
use Rattle.update_recovery.proofs.resuming.resume_all.Given as goal

abbrev pub invariant-loop-place : goal.invariant-loop-place
invariant-loop-place g l = HasCome (Resumes g.D.Disk.shown l.epoch) l.place l.fn.nodes l.nodes
