use Rattle.std.proofs.Common.{◌≡◌, ◌++◌, map, drop}
use Rattle.std.specs.List.{flat_map}
use Rattle.cluster_mail.specs.Mail.{fresh}
use Rattle.target_turns.specs.Marks.{stable_to}
use Rattle.target_turns.proofs.served.Served.tell_stables.Given as goal

abbrev pub invariant-loop-i : goal.invariant-loop-i
invariant-loop-i g l = l.mail ++ map fresh (flat_map (stable_to l.self.node.state.epoch l.self.index) (drop l.i l.marks)) ≡ l.fn.mail ++ map fresh (flat_map (stable_to l.self.node.state.epoch l.self.index) l.marks)
