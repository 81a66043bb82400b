use Rattle.update_protocol.proofs.Setting.{setting}
use Rattle.update_protocol.proofs.SayingReply.{seat_is_last}
use Rattle.update_protocol.proofs.Whole.{new_newest, new_once}
use Rattle.update_protocol.proofs.what_is_accepted_is_new.Goals as goal

pub returns : goal.returns
returns c = record {
  newest = λ targets count h w r m x may. new_newest (setting targets (c.operations_have_laws.ensures.laws targets count)) h r.story r.start r.events w r.run m x may;
  once = λ targets count h w r m x may sent known is has. new_once (setting targets (c.operations_have_laws.ensures.laws targets count)) h r.story r.start r.events w r.run m x may sent known is has;
  seats = λ targets count h w r t up client. seat_is_last (setting targets (c.operations_have_laws.ensures.laws targets count)) c.seats_are_last.ensures.last h w r t up client;
}
