use Rattle.update_protocol.proofs.Setting.{setting}
use Rattle.update_protocol.proofs.Redone.{redo_exact}
use Rattle.update_protocol.proofs.what_is_redone.Goals as goal

pub returns : goal.returns
returns c = record {
  order = λ targets count base since disk mark gone kept g t extra redo. (redo_exact (setting targets (c.operations_have_laws.ensures.laws targets count)) base since disk mark gone kept g t extra redo).0;
  redone = λ targets count base since disk mark gone kept g t extra redo n. ((redo_exact (setting targets (c.operations_have_laws.ensures.laws targets count)) base since disk mark gone kept g t extra redo).1 n).0;
  all = λ targets count base since disk mark gone kept g t extra redo n. ((redo_exact (setting targets (c.operations_have_laws.ensures.laws targets count)) base since disk mark gone kept g t extra redo).1 n).1;
}
