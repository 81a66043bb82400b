use Rattle.std.proofs.Common.{[], sym, ap, ◌∙◌}
use Rattle.std.proofs.lemmas.List.{append-nil}
use Rattle.update_record.specs.Messages.{message_text}
use Rattle.update_record.specs.MessageValues.{message_value}
use Rattle.update_record.proofs.MessageLaws.{message_back}
use Rattle.update_record.proofs.laws.a_message_is_read_back.Goals as goal

pub returns : goal.returns
returns c = record { alone = λ v fits. ap message_value (sym (append-nil (message_text v))) ∙ message_back v [] fits; followed = message_back }
