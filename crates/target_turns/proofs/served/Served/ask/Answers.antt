use Rattle.std.proofs.Common.{List, sym, subst}
use Rattle.out_update.specs.declared.update.Update.{Update}
use Rattle.out_update.specs.Spelling.{FitsRequest}
use Rattle.update_coordinator.proofs.Spelled.{one_asked}
use Rattle.target_turns.proofs.served.Served.ask.Goals as goal

pub hold_message-requires-clause-question : goal.hold_message-requires-clause-question
hold_message-requires-clause-question g c = rw c.in_ok-push.ensures.ok (rw c.new-question.ensures ((one_asked c.args.need c.requires.need).0))
