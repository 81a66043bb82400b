use Rattle.std.proofs.Common.{◌∙◌, List, ℕ, IfSome, sym, ap, subst, arith}
use Rattle.out_update.specs.declared.update.Update.{Update}
use Rattle.out_update.specs.Spelling.{FitsRequest}
use Rattle.update_record.specs.Spelling.{part_for}
use Rattle.update_record.proofs.Records.{length-record}
use Rattle.update_record.proofs.PartLaws.{requests_fit, part_fits}
use Rattle.update_record.proofs.operation.Record.part_of.Goals as goal

pub returns-clause-fits : goal.returns-clause-fits
returns-clause-fits c = λ fits.
    let r = c.args.self.now in
    let len = length-record r in
    let is = c.updates_for.ensures ∙ ap (λ (ps : List (ℕ × List Update)). part_for c.args.target ps) c.items.ensures in
    subst (λ o. IfSome o FitsRequest) (sym is) (part_fits c.args.target r.parts (requests_fit r.id.batch 0 r.parts fits.batch_set fits.each (omega (arith, fits.size, len))))
