use Rattle.std.proofs.Common.{◌≡◌, ◌++◌, map, drop}
use Rattle.std.specs.List.{flat_map}
use Rattle.cluster_mail.specs.Mail.{fresh}
use Rattle.target_turns.specs.Home.{release_to}
use Rattle.target_turns.proofs.served.Served.tell_releases_to.Given as goal

abbrev pub invariant-loop-target : goal.invariant-loop-target
invariant-loop-target g l = l.mail ++ map fresh (flat_map (release_to l.by l.on) (drop l.target-index l.targets)) ≡ l.fn.mail ++ map fresh (flat_map (release_to l.by l.on) l.targets)
