use Rattle.update_protocol.proofs.Setting.{setting}
use Rattle.update_protocol.proofs.Whole.{run_once}
use Rattle.update_protocol.proofs.each_record_is_executed_once.Goals as goal

pub returns : goal.returns
returns c = record {
  once = λ targets count h w r n t may. run_once (setting targets (c.operations_have_laws.ensures.laws targets count)) h r.story r.start r.events w r.run n t may;
}
