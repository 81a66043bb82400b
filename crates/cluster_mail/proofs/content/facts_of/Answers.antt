use Rattle.update_record.specs.Messages.{spells_facts}
use Rattle.update_record.specs.MessageReading.{judge_facts}
use Rattle.cluster_mail.proofs.Whole.{alone, whole, memory_alone}
use Rattle.cluster_mail.proofs.content.facts_of.Goals as goal

pub wanted-requires : goal.wanted-requires
wanted-requires c =
    let done = alone spells_facts judge_facts c.verdicts_are_of_spelled_facts.ensures.spelled c.requires.0 c.args.body.now c.requires.1 in
    memory_alone c.in-Err.fault _ _ (judge_facts c.args.body.now) done c.in-Err.ensures

pub returns-in-Ok : goal.returns-in-Ok
returns-in-Ok c =
    let done = alone spells_facts judge_facts c.verdicts_are_of_spelled_facts.ensures.spelled c.requires.0 c.args.body.now c.requires.1 in
    let is = c.in-Ok.ensures in
    whole spells_facts (judge_facts c.args.body.now) c.args.body.now c.in-Ok.facts c.in-Ok.field-0-1 done is.0 is.2
