use Rattle.std.proofs.Common.{[], sym, ap, ◌∙◌}
use Rattle.std.proofs.lemmas.List.{append-nil}
use Rattle.update_record.specs.Spelling.{record_text}
use Rattle.update_record.specs.Values.{record_value}
use Rattle.update_record.proofs.RecordValues.{record_back}
use Rattle.update_record.proofs.laws.a_record_is_read_back.Goals as goal

pub returns : goal.returns
returns c = record { alone = λ v fits. ap record_value (sym (append-nil (record_text v))) ∙ record_back v [] fits; followed = record_back }
