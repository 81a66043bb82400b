use Rattle.target_turns.proofs.Whole.{log_shown}
use Rattle.target_turns.proofs.laws.each_live_record_is_shown.Goals as goal

-- src/laws.rt:16:1
pub returns : goal.returns
returns c = log_shown
