use Rattle.update_protocol.proofs.Setting.{setting}
use Rattle.update_protocol.proofs.Whole.{run_on, run_follows, run_legal}
use Rattle.update_protocol.proofs.history_is_legal.Goals as goal

pub returns : goal.returns
returns c = record {
  legal = λ targets count h w r sent known. run_legal (setting targets (c.operations_have_laws.ensures.laws targets count)) h r.story r.start r.events w r.run sent known;
  participants = λ targets count h w r. run_on (setting targets (c.operations_have_laws.ensures.laws targets count)) h r.story r.start r.events w r.run;
  items = λ targets count h w r. run_follows (setting targets (c.operations_have_laws.ensures.laws targets count)) h r.story r.start r.events w r.run;
}
