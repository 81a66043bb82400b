use Rattle.std.proofs.Common.{◌≡◌, ◌≤◌, false, length, take, All}
use Rattle.cluster_mail.specs.Mail.{waits}
use Rattle.cluster_mail.proofs.mail.Mail.first_waiting.Given as goal

abbrev pub invariant-loop-index : goal.invariant-loop-index
invariant-loop-index l = record { within : l.index ≤ length l.self; past : All (λ s. waits s ≡ false) (take l.index l.self) }
