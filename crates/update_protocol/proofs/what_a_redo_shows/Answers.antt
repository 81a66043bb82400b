use Rattle.update_protocol.proofs.Setting.{setting}
use Rattle.update_protocol.proofs.Showing.{redo_old, redo_new}
use Rattle.update_protocol.proofs.what_a_redo_shows.Goals as goal

pub returns : goal.returns
returns c = record {
  old_image = λ targets count base since disk mark gone kept g t extra redo. redo_old (setting targets (c.operations_have_laws.ensures.laws targets count)) base since disk mark gone kept g t;
  new_image = λ targets count base since disk mark gone kept g t extra redo. redo_new (setting targets (c.operations_have_laws.ensures.laws targets count)) base since disk mark gone kept g t extra redo;
}
