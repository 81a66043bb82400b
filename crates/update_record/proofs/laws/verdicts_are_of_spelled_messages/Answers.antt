use Rattle.update_record.proofs.MessageLaws.{done_spelled, spelled_done, refused_none, more_none}
use Rattle.update_record.proofs.laws.verdicts_are_of_spelled_messages.Goals as goal

pub returns : goal.returns
returns c = record { done = done_spelled; spelled = spelled_done; refused = refused_none; more = more_none }
