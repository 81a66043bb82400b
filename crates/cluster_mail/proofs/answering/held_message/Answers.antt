use Rattle.std.proofs.Common.{◌++◌, List, ℕ, subst, sym, ap, ◌∙◌}
use Rattle.update_record.specs.declared.message.MessageKind.TheVariants as kind
use Rattle.update_record.specs.Messages.{facts_text, FitsMessage}
use Rattle.cluster_mail.specs.Answering.{answer_to}
use Rattle.cluster_mail.proofs.Sending.{held_fits}
use Rattle.cluster_mail.proofs.answering.held_message.Goals as goal

pub returns-clause-fits : goal.returns-clause-fits
returns-clause-fits c =
    let body = c.in_ok-encode.ensures.ok ∙ ap (λ (l : List ℕ). l ++ facts_text c.args.facts.now) c.new-body.ensures in
    subst FitsMessage (sym (c.answer_to.ensures ∙ ap (λ (b : List ℕ). answer_to kind.Held c.args.epoch c.args.from c.args.hold.now 0 b) body)) (held_fits c.args.epoch c.args.from c.args.hold.now c.args.facts.now c.ranges.epoch.fits c.requires.from c.requires.hold c.requires.facts)
