use Rattle.std.proofs.Common.{List, ℕ, subst, sym, ap, ◌∙◌}
use Rattle.update_record.specs.declared.message.MessageKind.TheVariants as kind
use Rattle.update_record.specs.Messages.{FitsMessage}
use Rattle.cluster_mail.specs.Answering.{answer_to}
use Rattle.cluster_mail.proofs.Sending.{synced_fits}
use Rattle.cluster_mail.proofs.answering.synced_message.Goals as goal

pub returns-clause-fits : goal.returns-clause-fits
returns-clause-fits c =
    let is = c.answer_to.ensures ∙ ap (λ (b : List ℕ). answer_to kind.Synced c.args.epoch c.args.from c.args.sync.now 0 b) c.new.ensures in
    subst FitsMessage (sym is) (synced_fits c.args.epoch c.args.from c.args.sync.now c.ranges.epoch.fits c.requires.from c.requires.sync)
