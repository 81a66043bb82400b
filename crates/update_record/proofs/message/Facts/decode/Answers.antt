use Rattle.std.proofs.Common.{◌∙◌, ap, sym, arith}
use Rattle.std.proofs.lemmas.List.{length-take-le}
use Rattle.byte_grammar.specs.declared.verdict.Verdict.TheVariants.{Done}
use Rattle.byte_grammar.proofs.Judging.{done_place, done_alone}
use Rattle.update_record.specs.MessageReading.{whole_facts}
use Rattle.update_record.proofs.MessageReasons.{facts_reason}
use Rattle.update_record.proofs.message.Facts.decode.Goals as goal

pub slice_bounds-build-end : goal.slice_bounds-build-end
slice_bounds-build-end c =
    let b = done_place 24600 whole_facts 0 c.args.bytes.now c.in-Done.end (sym c.verdict_on.ensures ∙ c.in-Done.is) in
    sym (length-take-le c.in-Done.end c.args.bytes.now (omega arith))

pub build-requires : goal.build-requires
build-requires c =
    let d = sym c.verdict_on.ensures ∙ c.in-Done.is in
    let b = done_place 24600 whole_facts 0 c.args.bytes.now c.in-Done.end d in
    done_alone 24600 whole_facts c.args.bytes.now c.in-Done.end d ∙ ap (λ n. Done n) (sym (length-take-le c.in-Done.end c.args.bytes.now (omega arith)))

pub fault_of-requires : goal.fault_of-requires
fault_of-requires c = facts_reason c.args.bytes.now c.in-Refused.refusal (sym c.verdict_on.ensures ∙ c.in-Refused.is)

pub returns-in-Ok : goal.returns-in-Ok
returns-in-Ok c =
    let d = sym c.verdict_on.ensures ∙ c.in-Done.is in
    let b = done_place 24600 whole_facts 0 c.args.bytes.now c.in-Done.end d in
    (d, omega arith, c.in-Ok.ensures)
