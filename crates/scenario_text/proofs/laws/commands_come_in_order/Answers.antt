use Rattle.scenario_text.proofs.MachineLaws.{in_order}
use Rattle.scenario_text.proofs.laws.commands_come_in_order.Goals as goal

pub returns : goal.returns
returns c = record { taken = λ honest gs t run. (in_order honest gs t run).0; asked = λ honest gs t run. (in_order honest gs t run).1 }
