use Rattle.std.proofs.Common.{◌∙◌, sym, ap, subst, arith}
use Rattle.byte_grammar.specs.Values.{Lacks}
use Rattle.out_update.specs.Values.{front}
use Rattle.update_record.specs.MessageValues.{message_at}
use Rattle.update_record.proofs.MessageLaws.{built_same, never_short}
use Rattle.update_record.proofs.MessageReasons.{message_reason}
use Rattle.update_record.proofs.message.Message.decode.Goals as goal

pub returns-in-Ok : goal.returns-in-Ok
returns-in-Ok c =
    let d = sym c.verdict_of.ensures ∙ c.in-Done.is in
    let b = built_same c.args.bytes.now c.in-Ok.message c.in-Done.end (λ i. omega (arith, c.type_inv.bytes i)) d (ap front c.in-Ok.ensures) in
    (d, b.0, b.1)

pub unreachable-requires : goal.unreachable-requires
unreachable-requires c =
    let lacks = subst (λ e. Lacks e (message_at c.args.bytes.now)) c.in-Err-Short.field-0-is c.in-Err-Short.ensures in
    never_short c.args.bytes.now c.in-Done.end (λ i. omega (arith, c.type_inv.bytes i)) (sym c.verdict_of.ensures ∙ c.in-Done.is) (ap front lacks)

pub fault_of-requires : goal.fault_of-requires
fault_of-requires c = message_reason c.args.bytes.now c.in-Refused.refusal (sym c.verdict_of.ensures ∙ c.in-Refused.is)
