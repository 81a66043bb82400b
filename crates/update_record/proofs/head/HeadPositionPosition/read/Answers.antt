use Rattle.std.proofs.Common.{◌∙◌, ℕ, Some, ap, length}
use Rattle.update_record.proofs.Reader.{head_wide, no_empty}
use Rattle.update_record.proofs.head.HeadPositionPosition.read.Goals as goal

pub returns-clause-rank : goal.returns-clause-rank
returns-clause-rank c = no_empty c.read_head.result (length c.args.bytes.now) (λ z. head_wide c.args.self (c.requires.width ∙ ap (λ (n : ℕ). Some n) z))
