use Rattle.outside.proofs.Zipped.{fits_zeros, zeros_cells}
use Rattle.outside.proofs.page.Page.new.Goals as goal

pub invariant_of-result : goal.invariant_of-result
invariant_of-result c = record { fits = fits_zeros _ _ _ c.in_ok-zeros.ensures.len c.in_ok-zeros-2.ensures.len c.in_ok-unset.ensures.len c.in_ok-zeros.ensures.zero c.in_ok-zeros-2.ensures.zero c.in_ok-unset.ensures.unset }

pub returns : goal.returns
returns c = zeros_cells _ _ _ c.in_ok-zeros.ensures.len c.in_ok-zeros-2.ensures.len c.in_ok-unset.ensures.len c.in_ok-zeros.ensures.zero c.in_ok-zeros-2.ensures.zero c.in_ok-unset.ensures.unset
