use Rattle.update_protocol.proofs.Setting.{setting}
use Rattle.update_protocol.proofs.Redone.{gathered, gathered_now, redo_alike, redone_gathered}
use Rattle.update_protocol.proofs.Saying.{inv}
use Rattle.update_protocol.proofs.what_is_gathered.Goals as goal

pub returns : goal.returns
returns c = record {
  committed = λ targets count h w r kept named. gathered (setting targets (c.operations_have_laws.ensures.laws targets count)) w (inv (setting targets (c.operations_have_laws.ensures.laws targets count)) h w r) kept named;
  in_memory = λ targets count h w r kept named. gathered_now (setting targets (c.operations_have_laws.ensures.laws targets count)) w (inv (setting targets (c.operations_have_laws.ensures.laws targets count)) h w r) kept named;
  redone = λ targets count base since disk mark gone kept g t extra redo. redone_gathered (setting targets (c.operations_have_laws.ensures.laws targets count)) base since disk mark gone kept g t extra redo;
  alike = λ targets count base since disk mark gone kept g other dropped f t extra redo. redo_alike (setting targets (c.operations_have_laws.ensures.laws targets count)) base since disk mark gone other dropped kept g f t extra redo;
}
