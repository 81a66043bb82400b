use Rattle.std.proofs.Common.{List, ℕ, subst, sym, ap, ◌∙◌}
use Rattle.update_record.specs.declared.message.MessageKind.TheVariants as kind
use Rattle.update_record.specs.Messages.{FitsMessage}
use Rattle.cluster_mail.specs.Asking.{order_to}
use Rattle.cluster_mail.proofs.Sending.{release_fits}
use Rattle.cluster_mail.proofs.asking.release_message.Goals as goal

pub returns-clause-fits : goal.returns-clause-fits
returns-clause-fits c =
    let is = c.order_to.ensures.value ∙ ap (λ (b : List ℕ). order_to kind.Release c.args.by c.args.to 0 0 b) c.new.ensures in
    subst FitsMessage (sym is) (release_fits c.args.by c.args.to c.order_to.ensures.epoch c.order_to.ensures.attempt c.order_to.ensures.number c.requires.master c.requires.to)
