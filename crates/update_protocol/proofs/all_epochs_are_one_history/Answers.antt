use Rattle.update_protocol.proofs.Setting.{setting}
use Rattle.update_protocol.proofs.Whole.{story_legal}
use Rattle.update_protocol.proofs.all_epochs_are_one_history.Goals as goal

pub returns : goal.returns
returns c = record {
  legal = λ targets count h story sent known. story_legal (setting targets (c.operations_have_laws.ensures.laws targets count)) h story sent known;
}
