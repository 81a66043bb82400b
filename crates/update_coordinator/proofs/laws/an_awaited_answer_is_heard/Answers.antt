use Rattle.update_coordinator.proofs.Hearing.{heard_answer}
use Rattle.update_coordinator.proofs.laws.an_awaited_answer_is_heard.Goals as goal

pub returns : goal.returns
returns c = heard_answer
