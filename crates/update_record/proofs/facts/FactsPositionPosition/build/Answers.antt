use Rattle.std.proofs.Common.{arith, ap, subst}
use Rattle.byte_grammar.specs.Values.{Lacks}
use Rattle.byte_grammar.proofs.Whole.{built_same, never_short}
use Rattle.out_update.specs.Values.{front}
use Rattle.update_record.specs.Messages.{FitsFacts, facts_text}
use Rattle.update_record.specs.MessageReading.{whole_facts}
use Rattle.update_record.specs.FactsValues.{facts_at, facts_value}
use Rattle.update_record.proofs.FactsValues.{facts_format}
use Rattle.update_record.proofs.facts.FactsPositionPosition.build.Goals as goal

pub returns-in-Ok : goal.returns-in-Ok
returns-in-Ok c = built_same 24600 FitsFacts facts_text whole_facts facts_value facts_format c.args.bytes.now c.in-Ok.value (λ i. omega (arith, c.type_inv.bytes i)) c.requires (ap front c.in-Ok.ensures)

pub unreachable-requires : goal.unreachable-requires
unreachable-requires c =
    let lacks = subst (λ e. Lacks e (facts_at c.args.bytes.now)) c.in-Err-Short.field-0-is c.in-Err-Short.ensures in
    never_short 24600 FitsFacts facts_text whole_facts facts_value facts_format c.args.bytes.now (λ i. omega (arith, c.type_inv.bytes i)) c.requires (ap front lacks)
