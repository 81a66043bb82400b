use Rattle.update_coordinator.proofs.Asking.{first_asks, next_asks, accepted_asks}
use Rattle.update_coordinator.proofs.laws.what_was_asked_is_held.Goals as goal

pub returns-clause-first : goal.returns-clause-first
returns-clause-first c = first_asks c.members_by_parts.ensures.joined c.members_by_parts.ensures.none

pub returns-clause-next : goal.returns-clause-next
returns-clause-next c = next_asks c.members_by_parts.ensures.joined

pub returns-clause-accepted : goal.returns-clause-accepted
returns-clause-accepted c = accepted_asks
