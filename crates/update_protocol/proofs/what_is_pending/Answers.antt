use Rattle.update_protocol.proofs.Setting.{setting}
use Rattle.update_protocol.proofs.Whole.{run_pends}
use Rattle.update_protocol.proofs.Pending.{commit_pending, execute_pending, accept_pending, stop_pending, tear_pending, adopt_pending}
use Rattle.update_protocol.proofs.what_is_pending.Goals as goal

pub returns : goal.returns
returns c = record {
  accepted = λ targets count h w r m x s. accept_pending w m x s (run_pends (setting targets (c.operations_have_laws.ensures.laws targets count)) h r.story r.start r.events w r.run m);
  executed = λ targets count h w r n t s. execute_pending w n t s (run_pends (setting targets (c.operations_have_laws.ensures.laws targets count)) h r.story r.start r.events w r.run t);
  committed = λ targets count h w r t s. commit_pending w t s;
  stopped = λ targets count h w r t s. stop_pending w t s;
  torn = λ targets count h w r t s. tear_pending w t s;
  adopted = λ targets count h w r t s. adopt_pending w t s;
}
