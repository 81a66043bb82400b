use Rattle.update_protocol.proofs.Setting.{setting}
use Rattle.update_protocol.proofs.Whole.{run_pends, run_old, run_new, run_log, run_position}
use Rattle.update_protocol.proofs.what_lines_show.Goals as goal

pub returns : goal.returns
returns c = record {
  pends = λ targets count h w r t. run_pends (setting targets (c.operations_have_laws.ensures.laws targets count)) h r.story r.start r.events w r.run t;
  old_image = λ targets count h w r t. run_old (setting targets (c.operations_have_laws.ensures.laws targets count)) h r.story r.start r.events w r.run t;
  new_image = λ targets count h w r t. run_new (setting targets (c.operations_have_laws.ensures.laws targets count)) h r.story r.start r.events w r.run t;
  log = λ targets count h w r t. run_log (setting targets (c.operations_have_laws.ensures.laws targets count)) h r.story r.start r.events w r.run t;
  position = λ targets count h w r. run_position (setting targets (c.operations_have_laws.ensures.laws targets count)) h r.story r.start r.events w r.run;
}
