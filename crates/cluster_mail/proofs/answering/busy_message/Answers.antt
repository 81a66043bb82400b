use Rattle.std.proofs.Common.{List, ℕ, subst, sym, ap₂, ◌∙◌}
use Rattle.update_record.specs.declared.message.MessageKind.TheVariants as kind
use Rattle.update_record.specs.Messages.{FitsMessage}
use Rattle.cluster_mail.specs.Answering.{answer_to}
use Rattle.cluster_mail.proofs.Sending.{busy_fits}
use Rattle.cluster_mail.proofs.answering.busy_message.Goals as goal

pub returns-clause-fits : goal.returns-clause-fits
returns-clause-fits c =
    let is = c.answer_to.ensures ∙ ap₂ (λ (v : ℕ) (b : List ℕ). answer_to kind.HoldBusy c.args.epoch c.args.from c.args.hold.now v b) c.from.ensures c.new-body.ensures in
    subst FitsMessage (sym is) (busy_fits c.args.epoch c.args.from c.args.hold.now c.args.holder c.ranges.epoch.fits c.requires.from c.requires.hold c.ranges.holder.fits)
