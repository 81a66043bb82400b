use Rattle.std.proofs.Common.{◌≡◌, ◌++◌, take}
use Rattle.update_recovery.specs.Steps.{HasCome, told_from}
use Rattle.update_recovery.specs.Redoing.{RedoesAt, redone_at}
use Rattle.update_recovery.proofs.redoing.redo_all.Given as goal

abbrev pub invariant-loop-place : goal.invariant-loop-place
invariant-loop-place g l =
    HasCome (RedoesAt g.D.Disk.shown l.bounds.epoch l.bounds.marks.items l.union.keys) l.place l.fn.nodes l.nodes
    × (l.redone ≡ l.fn.redone ++ told_from (redone_at l.bounds.epoch l.bounds.marks.items l.union.keys) 0 (take l.place l.fn.nodes))
