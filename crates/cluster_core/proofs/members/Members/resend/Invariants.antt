use Rattle.std.proofs.Common.{◌≡◌, ◌++◌, map, drop}
use Rattle.std.specs.List.{flat_map}
use Rattle.cluster_mail.specs.Mail.{fresh}
use Rattle.target_turns.specs.Commanded.{resends}
use Rattle.cluster_core.specs.Commands.{resends_all}
use Rattle.cluster_core.proofs.members.Members.resend.Given as goal

abbrev pub invariant-loop-target : goal.invariant-loop-target
invariant-loop-target g l = record {
  targets : l.self.targets ≡ l.fn.self.targets;
  sent : l.self.sent ++ map fresh (flat_map resends (drop l.target l.self.targets)) ≡ (resends_all l.fn.self).sent;
}
