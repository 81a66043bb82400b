use Rattle.update_protocol.proofs.Setting.{setting}
use Rattle.update_protocol.proofs.Free.{free_disk, free_memory}
use Rattle.update_protocol.proofs.a_free_target_has_its_share.Goals as goal

pub returns : goal.returns
returns c = record {
  memory = λ targets count h w r t lt up free. free_memory (setting targets (c.operations_have_laws.ensures.laws targets count)) h w r t lt up free;
  disk = λ targets count h w r t lt up free all. free_disk (setting targets (c.operations_have_laws.ensures.laws targets count)) h w r t lt up free all;
}
