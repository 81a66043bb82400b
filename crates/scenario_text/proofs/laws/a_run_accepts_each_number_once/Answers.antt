use Rattle.scenario_text.proofs.MachineLaws.{accepted_once}
use Rattle.scenario_text.proofs.laws.a_run_accepts_each_number_once.Goals as goal

pub returns : goal.returns
returns c = accepted_once
