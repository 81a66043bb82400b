use Rattle.std.proofs.Common.{◌++◌, List, ℕ, subst, sym, ap, ◌∙◌}
use Rattle.out_update.specs.Spelling.{request_text}
use Rattle.update_record.specs.declared.message.MessageKind.TheVariants as kind
use Rattle.update_record.specs.Messages.{FitsMessage}
use Rattle.cluster_mail.specs.Asking.{order_to}
use Rattle.cluster_mail.proofs.Sending.{hold_fits}
use Rattle.cluster_mail.proofs.asking.hold_message.Goals as goal

pub returns-clause-fits : goal.returns-clause-fits
returns-clause-fits c =
    let body = c.in_ok-encode.ensures.ok ∙ ap (λ (l : List ℕ). l ++ request_text c.args.question.now) c.new-body.ensures in
    let is = c.order_to.ensures.value ∙ ap (λ (b : List ℕ). order_to kind.Hold c.args.by c.args.to c.args.ask 0 b) body in
    subst FitsMessage (sym is) (hold_fits c.args.by c.args.to c.args.ask c.args.question.now c.order_to.ensures.epoch c.order_to.ensures.attempt c.order_to.ensures.number c.requires.master c.requires.to c.ranges.ask.fits c.requires.question c.requires.one)
