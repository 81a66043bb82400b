use Rattle.std.proofs.Common.{[], sym, ap, ◌∙◌}
use Rattle.std.proofs.lemmas.List.{append-nil}
use Rattle.update_record.specs.Messages.{facts_text}
use Rattle.update_record.specs.FactsValues.{facts_value}
use Rattle.update_record.proofs.FactsValues.{facts_back}
use Rattle.update_record.proofs.laws.facts_are_read_back.Goals as goal

pub returns : goal.returns
returns c = record { alone = λ v fits. ap facts_value (sym (append-nil (facts_text v))) ∙ facts_back v [] fits; followed = facts_back }
