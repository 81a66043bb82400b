use Rattle.std.proofs.Common.{List, ℕ, subst, sym, ap₂, ◌∙◌}
use Rattle.update_record.specs.declared.message.MessageKind.TheVariants as kind
use Rattle.update_record.specs.Messages.{FitsMessage}
use Rattle.cluster_mail.specs.Asking.{order_to}
use Rattle.cluster_mail.proofs.Sending.{sync_fits}
use Rattle.cluster_mail.proofs.asking.sync_message.Goals as goal

pub returns-clause-fits : goal.returns-clause-fits
returns-clause-fits c =
    let is = c.order_to.ensures.value ∙ ap₂ (λ (v : ℕ) (b : List ℕ). order_to kind.Sync c.args.by c.args.to c.args.ask v b) c.from.ensures c.new-body.ensures in
    subst FitsMessage (sym is) (sync_fits c.args.by c.args.to c.args.ask c.args.writer c.order_to.ensures.epoch c.order_to.ensures.attempt c.order_to.ensures.number c.requires.master c.requires.to c.ranges.ask.fits c.ranges.writer.fits)
