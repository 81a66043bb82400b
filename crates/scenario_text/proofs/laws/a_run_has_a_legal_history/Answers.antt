use Rattle.scenario_text.proofs.MachineLaws.{legal_history}
use Rattle.scenario_text.proofs.laws.a_run_has_a_legal_history.Goals as goal

pub returns : goal.returns
returns c = legal_history
