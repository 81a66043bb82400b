use Rattle.update_protocol.proofs.Setting.{setting}
use Rattle.update_protocol.proofs.Whole.{run_cause}
use Rattle.update_protocol.proofs.each_shared_line_has_its_cause.Goals as goal

pub returns : goal.returns
returns c = record {
  cause = λ targets count h w r few a t k sent on up holder n pends. run_cause (setting targets (c.operations_have_laws.ensures.laws targets count)) h r.story r.start r.events w r.run few a t k sent on up holder n pends;
}
