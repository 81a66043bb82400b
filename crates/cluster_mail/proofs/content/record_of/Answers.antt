use Rattle.update_record.specs.Spelling.{spells_record}
use Rattle.update_record.specs.Decoding.{judge_record}
use Rattle.cluster_mail.proofs.Whole.{alone, whole, memory_alone}
use Rattle.cluster_mail.proofs.content.record_of.Goals as goal

pub wanted-requires : goal.wanted-requires
wanted-requires c =
    let done = alone spells_record judge_record c.verdicts_are_of_spelled_records.ensures.spelled c.requires.0 c.args.bytes.now c.requires.1 in
    memory_alone c.in-Err.fault _ _ (judge_record c.args.bytes.now) done c.in-Err.ensures

pub returns-in-Ok : goal.returns-in-Ok
returns-in-Ok c =
    let done = alone spells_record judge_record c.verdicts_are_of_spelled_records.ensures.spelled c.requires.0 c.args.bytes.now c.requires.1 in
    let is = c.in-Ok.ensures in
    whole spells_record (judge_record c.args.bytes.now) c.args.bytes.now c.in-Ok.entry c.in-Ok.field-0-1 done is.0 is.2
