use Rattle.std.proofs.Common.{◌∙◌, sym, ap, ℕ, List, Option}
use Rattle.byte_grammar.specs.declared.verdict.Verdict.{Verdict}
use Rattle.byte_grammar.specs.declared.verdict.Verdict.TheVariants.{Done}
use Rattle.update_record.specs.declared.head.Head.{Head}
use Rattle.update_record.specs.MessageReading.{judge_behind}
use Rattle.update_record.specs.MessageValues.{head_at}
use Rattle.update_record.proofs.post.verdict_of.Goals as goal

pub returns-in-Ok : goal.returns-in-Ok
returns-in-Ok c =
    c.verdict_behind.ensures
    ∙ sym (
    ap (λ (v : Verdict). judge_behind v (head_at c.args.bytes.now)) (sym c.verdict_on.ensures ∙ c.in-Done.is)
    ∙ ap (λ (o : Option (Head × List ℕ)). judge_behind (Done c.in-Done.field-0) o) c.in-Ok.ensures.value
    )
