use Rattle.update_protocol.proofs.Setting.{setting}
use Rattle.update_protocol.proofs.Runs.{gone_full}
use Rattle.update_protocol.proofs.Saying.{inv}
use Rattle.update_protocol.proofs.Showing.{cancelled_full, kept_full}
use Rattle.update_protocol.proofs.a_cancelled_record_is_everywhere.Goals as goal

pub returns : goal.returns
returns c = record {
  everywhere = λ targets count h w r t n gone. gone_full (setting targets (c.operations_have_laws.ensures.laws targets count)) w (inv (setting targets (c.operations_have_laws.ensures.laws targets count)) h w r) t n gone;
  on_disk = λ targets count h w r t n gone. kept_full (setting targets (c.operations_have_laws.ensures.laws targets count)) w (inv (setting targets (c.operations_have_laws.ensures.laws targets count)) h w r) t n gone;
  torn = λ targets count h w r t n gone. cancelled_full (setting targets (c.operations_have_laws.ensures.laws targets count)) w (inv (setting targets (c.operations_have_laws.ensures.laws targets count)) h w r) t n gone;
}
