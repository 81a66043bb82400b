use Rattle.outside.proofs.Mapped.{fits_whole}
use Rattle.outside.proofs.sure.SureDisk.new.Goals as goal

pub invariant_of-result : goal.invariant_of-result
invariant_of-result c = record { fits = fits_whole c.in_ok-zeros.field-0.items c.in_ok-zeros.ensures.len }
