use Rattle.std.proofs.Common.{Ok, ◌++◌, subst}
use Rattle.byte_grammar.specs.declared.feeder.Fed.{Fed}
use Rattle.out_update.specs.declared.update.Update.{Update}
use Rattle.out_update.specs.Spelling.{spells}
use Rattle.out_update.specs.Decoding.{judge_request, Tells}
use Rattle.std.proofs.Common.{List}
use Rattle.cluster_mail.proofs.Whole.{question_done, question_whole, never_more, memory_alone_update}
use Rattle.cluster_mail.proofs.content.question_of.Goals as goal

pub returns-in-Ok-Done : goal.returns-in-Ok-Done
returns-in-Ok-Done c =
    let is = subst (λ (f : Fed (List Update)). Tells spells (judge_request (c.new-decoder.result ++ c.args.body.now)) c.new-decoder.result c.args.body.now (Ok f)) c.in-Ok-Done.field-0-is c.in-Ok-Done.ensures.exact in
    question_whole c.new-decoder.result c.args.body.now c.requires.0 c.in-Ok-Done.value _ c.verdicts_are_of_spelled_requests.ensures.spelled c.one_spelling_per_request.ensures.one_value c.new-decoder.ensures c.requires.1 is.0 is.2

pub unreachable-requires : goal.unreachable-requires
unreachable-requires c =
    let is = subst (λ (f : Fed (List Update)). Tells spells (judge_request (c.new-decoder.result ++ c.args.body.now)) c.new-decoder.result c.args.body.now (Ok f)) c.in-Ok-More.field-0-is c.in-Ok-More.ensures.exact in
    never_more _ _ (question_done c.new-decoder.result c.args.body.now c.requires.0 c.verdicts_are_of_spelled_requests.ensures.spelled c.new-decoder.ensures c.requires.1) is

pub unreachable-requires-in_default : goal.unreachable-requires-in_default
unreachable-requires-in_default c =
    c.in_default.not-Memory (memory_alone_update c.in-Err.fault _ _ (question_done c.new-decoder.result c.args.body.now c.requires.0 c.verdicts_are_of_spelled_requests.ensures.spelled c.new-decoder.ensures c.requires.1) c.in-Err.ensures.exact)
