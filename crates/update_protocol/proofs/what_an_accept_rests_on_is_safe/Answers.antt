use Rattle.update_protocol.proofs.Setting.{setting}
use Rattle.update_protocol.proofs.Resting.{rests_safe, waits}
use Rattle.update_protocol.proofs.what_an_accept_rests_on_is_safe.Goals as goal

pub returns : goal.returns
returns c = record {
  safe = λ targets count h w r m x may n l f wrote rests. rests_safe (setting targets (c.operations_have_laws.ensures.laws targets count)) h w r m x may n l f wrote rests;
  waits = λ targets count h w r m x n l f wrote saw unnamed lacks on off may. waits (setting targets (c.operations_have_laws.ensures.laws targets count)) h w r m x may n l f wrote saw unnamed lacks on off;
}
