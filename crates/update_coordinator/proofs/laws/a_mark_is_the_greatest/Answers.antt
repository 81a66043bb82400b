use Rattle.std.proofs.Common.{set, get_or, max, drop}
use Rattle.update_coordinator.proofs.Rising.{never_falls}
use Rattle.update_coordinator.proofs.Staying.{noted_greatest}
use Rattle.update_coordinator.proofs.laws.a_mark_is_the_greatest.Goals as goal

pub returns-clause-mark : goal.returns-clause-mark
returns-clause-mark c = noted_greatest

pub returns-clause-never_falls : goal.returns-clause-never_falls
returns-clause-never_falls c k t batch = never_falls (set k.stable t (max (get_or k.stable t 0) batch)) k.mark (drop k.mark k.batches)
