use Rattle.std.proofs.Common.{◌≡◌, ◌++◌, map, drop}
use Rattle.std.specs.List.{flat_map}
use Rattle.cluster_mail.specs.Mail.{fresh}
use Rattle.target_turns.specs.Marks.{cancel_to}
use Rattle.target_turns.specs.Seen.{served_of}
use Rattle.target_turns.proofs.served.Served.tell_cancels_to.Given as goal

abbrev pub invariant-loop-target : goal.invariant-loop-target
invariant-loop-target g l = l.mail ++ map fresh (flat_map (cancel_to (served_of g.D.Disk.shown l.self) l.mark l.on) (drop l.target-index l.targets)) ≡ l.fn.mail ++ map fresh (flat_map (cancel_to (served_of g.D.Disk.shown l.self) l.mark l.on) l.targets)
