use Rattle.std.proofs.Common.{◌≡◌, ◌++◌, map, drop}
use Rattle.std.specs.List.{flat_map}
use Rattle.cluster_mail.specs.Mail.{fresh}
use Rattle.target_turns.specs.Home.{execute_to}
use Rattle.target_turns.proofs.served.Served.tell_executes_to.Given as goal

abbrev pub invariant-loop-target : goal.invariant-loop-target
invariant-loop-target g l = l.mail ++ map fresh (flat_map (execute_to l.by l.self.index l.entry) (drop l.target-index l.targets)) ≡ l.fn.mail ++ map fresh (flat_map (execute_to l.by l.self.index l.entry) l.targets)
