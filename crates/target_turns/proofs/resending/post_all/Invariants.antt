use Rattle.std.proofs.Common.{◌≡◌, ◌++◌, map, drop}
use Rattle.cluster_mail.specs.Mail.{fresh}
use Rattle.target_turns.proofs.resending.post_all.Given as goal

abbrev pub invariant-loop-i : goal.invariant-loop-i
invariant-loop-i l = l.mail ++ map fresh (drop l.i l.messages) ≡ l.fn.mail ++ map fresh l.messages
