use Rattle.update_protocol.proofs.Setting.{setting}
use Rattle.update_protocol.proofs.SayingAnswers.{fits_now, told_now}
use Rattle.update_protocol.proofs.what_is_told_is_true.Goals as goal

pub returns : goal.returns
returns c = record {
  told = λ targets count h w r m a current answers heard. told_now (setting targets (c.operations_have_laws.ensures.laws targets count)) h w r m a current answers heard;
  fits = λ targets count h w r few. fits_now (setting targets (c.operations_have_laws.ensures.laws targets count)) h w r few;
}
