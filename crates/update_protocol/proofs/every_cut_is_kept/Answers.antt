use Rattle.update_protocol.proofs.Setting.{setting}
use Rattle.update_protocol.proofs.Whole.{cut_kept}
use Rattle.update_protocol.proofs.every_cut_is_kept.Goals as goal

pub returns : goal.returns
returns c = record {
  kept = λ targets count h w r sent known cut kept is. cut_kept (setting targets (c.operations_have_laws.ensures.laws targets count)) h r.story r.start r.events w r.run sent known cut kept is;
}
