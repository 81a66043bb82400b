use Rattle.scenario_text.proofs.OneSpelling.{one_command}
use Rattle.scenario_text.proofs.laws.one_spelling_per_command.Goals as goal

pub returns : goal.returns
returns c = one_command
