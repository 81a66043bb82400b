use Rattle.update_record.proofs.RecordValues.{answer_again}
use Rattle.update_record.proofs.laws.answers_are_read_back.Goals as goal

pub returns : goal.returns
returns c = answer_again
