use Rattle.std.proofs.Common.{◌≡◌, sym, subst, List, ℕ}
use Rattle.update_record.specs.Messages.{spells_message}
use Rattle.update_record.specs.MessageReading.{judge_message}
use Rattle.cluster_mail.specs.Kept.{spelled}
use Rattle.cluster_mail.proofs.Whole.{alone, whole, memory_alone}
use Rattle.cluster_mail.proofs.mail.Kept.read.Goals as goal

pub wanted-requires : goal.wanted-requires
wanted-requires c =
    let text = subst (spells_message (spelled c.args.self.now.bytes)) (sym c.bytes.ensures) (c.requires.fits, c.requires.text) in
    let done = alone spells_message judge_message c.verdicts_are_of_spelled_messages.ensures.spelled (spelled c.args.self.now.bytes) c.bytes.result.now text in
    memory_alone c.in-Err.fault _ _ (judge_message c.bytes.result.now) done c.in-Err.ensures

pub returns-in-Ok-clause-message : goal.returns-in-Ok-clause-message
returns-in-Ok-clause-message c =
    let text = subst (spells_message (spelled c.args.self.now.bytes)) (sym c.bytes.ensures) (c.requires.fits, c.requires.text) in
    let done = alone spells_message judge_message c.verdicts_are_of_spelled_messages.ensures.spelled (spelled c.args.self.now.bytes) c.bytes.result.now text in
    let is = c.in-Ok.ensures in
    c.one_spelling_per_message.ensures.one_value c.in-Ok.message (spelled c.args.self.now.bytes) c.bytes.result.now (whole spells_message (judge_message c.bytes.result.now) c.bytes.result.now c.in-Ok.message c.in-Ok.field-0-1 done is.0 is.2) text
