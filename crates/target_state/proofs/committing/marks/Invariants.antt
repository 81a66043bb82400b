use Rattle.std.proofs.Common.{◌≡◌, ◌-◌, ◌++◌}
use Rattle.target_state.specs.Commit.{marks_from}
use Rattle.target_state.proofs.committing.marks.Given as goal

abbrev pub invariant-loop-master : goal.invariant-loop-master
invariant-loop-master l = l.marks ++ marks_from (16 - l.master) l.index l.master l.items ≡ marks_from 16 l.index 0 l.items
