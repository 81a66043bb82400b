use Rattle.scenario_text.proofs.Restored.{restored}
use Rattle.scenario_text.proofs.line.print_tree.Goals as goal

pub returns-in-Err-clause-err : goal.returns-in-Err-clause-err
returns-in-Err-clause-err c = restored _ _ _ _ _ c.len-before.ensures c.in-Err.ensures.front c.truncate.ensures
