use Rattle.object_store.proofs.Imaged.{image_again}
use Rattle.state_image.proofs.StateAgain.{state_again}
use Rattle.state_image.proofs.laws.a_state_is_read_back.Goals as goal

pub returns : goal.returns
returns c = state_again image_again c.one_spelling_per_log.ensures.reads c.verdicts_are_of_spelled_records.ensures.spelled c.a_record_is_read_back.ensures.alone
