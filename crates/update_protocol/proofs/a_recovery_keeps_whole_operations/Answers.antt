use Rattle.update_protocol.proofs.Setting.{setting}
use Rattle.update_protocol.proofs.Stories.{renewed, whole, absent, story_grounded}
use Rattle.update_protocol.proofs.Whole.{epoch_kept, epoch_shares}
use Rattle.update_protocol.proofs.a_recovery_keeps_whole_operations.Goals as goal

pub returns : goal.returns
returns c = record {
  kept = λ targets count h story e sent known. epoch_kept (setting targets (c.operations_have_laws.ensures.laws targets count)) h story e sent known;
  whole = λ targets count h story e. whole (setting targets (c.operations_have_laws.ensures.laws targets count)) h (story_grounded (setting targets (c.operations_have_laws.ensures.laws targets count)) h story) e;
  absent = λ targets count h story e. absent (setting targets (c.operations_have_laws.ensures.laws targets count)) h (story_grounded (setting targets (c.operations_have_laws.ensures.laws targets count)) h story) e;
  renewed = λ targets count h story e. renewed (setting targets (c.operations_have_laws.ensures.laws targets count)) h (story_grounded (setting targets (c.operations_have_laws.ensures.laws targets count)) h story) e;
  shares = λ targets count h story e t lt. epoch_shares (setting targets (c.operations_have_laws.ensures.laws targets count)) h story e t lt;
}
