use Rattle.std.proofs.Common.{subst, sym}
use Rattle.update_record.specs.Messages.{FitsMessage}
use Rattle.cluster_mail.proofs.Sending.{stable_fits}
use Rattle.cluster_mail.proofs.answering.stable_message.Goals as goal

pub returns-clause-fits : goal.returns-clause-fits
returns-clause-fits c = subst FitsMessage (sym c.batch_message.ensures) (stable_fits c.args.epoch c.args.from c.args.to c.args.batch c.ranges.epoch.fits c.requires.from c.requires.to c.ranges.batch.fits)
