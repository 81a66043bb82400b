use Rattle.update_coordinator.proofs.Spelled.{none_asked}
use Rattle.target_turns.proofs.served.Served.hold_only.Goals as goal

pub hold_message-requires-clause-question : goal.hold_message-requires-clause-question
hold_message-requires-clause-question g c = rw c.new-question.ensures none_asked.0
