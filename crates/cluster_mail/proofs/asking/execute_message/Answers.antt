use Rattle.std.proofs.Common.{◌++◌, List, ℕ, subst, sym, ap, ◌∙◌}
use Rattle.update_record.specs.declared.message.MessageKind.TheVariants as kind
use Rattle.update_record.specs.Messages.{FitsMessage}
use Rattle.update_record.specs.Spelling.{record_text}
use Rattle.cluster_mail.specs.Asking.{order_to}
use Rattle.cluster_mail.proofs.Sending.{execute_fits}
use Rattle.cluster_mail.proofs.asking.execute_message.Goals as goal

pub returns-clause-fits : goal.returns-clause-fits
returns-clause-fits c =
    let body = c.in_ok-encode.ensures.ok ∙ ap (λ (l : List ℕ). l ++ record_text c.args.entry.now) c.new-body.ensures in
    let is = c.order_to.ensures.value ∙ ap (λ (b : List ℕ). order_to kind.Execute c.args.by c.args.to 0 0 b) body in
    subst FitsMessage (sym is) (execute_fits c.args.by c.args.to c.args.entry.now c.order_to.ensures.epoch c.order_to.ensures.attempt c.order_to.ensures.number c.requires.master c.requires.to c.requires.entry)
