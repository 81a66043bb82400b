use Rattle.std.proofs.Common.{[], refl}
use Rattle.update_coordinator.proofs.Staying.{started_up_to, heard_up_to, noted_up_to}
use Rattle.update_coordinator.proofs.laws.batches_up_to_the_mark_are_stable.Goals as goal

pub returns-clause-first : goal.returns-clause-first
returns-clause-first c targets master epoch = record { front = []; rest = []; parts = refl; count = refl; row = tt }

pub returns-clause-started : goal.returns-clause-started
returns-clause-started c = started_up_to

pub returns-clause-heard : goal.returns-clause-heard
returns-clause-heard c = heard_up_to

pub returns-clause-noted : goal.returns-clause-noted
returns-clause-noted c = noted_up_to
