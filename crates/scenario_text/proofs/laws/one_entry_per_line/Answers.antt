use Rattle.scenario_text.proofs.OneLine.{one_entry}
use Rattle.scenario_text.proofs.laws.one_entry_per_line.Goals as goal

pub returns : goal.returns
returns c = one_entry
