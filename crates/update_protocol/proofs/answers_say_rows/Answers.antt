use Rattle.update_protocol.proofs.Setting.{setting}
use Rattle.std.proofs.Common.{refl}
use Rattle.update_protocol.proofs.SayingAnswers.{answered, read_says}
use Rattle.update_protocol.proofs.SayingReply.{answers, late}
use Rattle.update_protocol.proofs.answers_say_rows.Goals as goal

pub returns : goal.returns
returns c = record {
  answered = λ targets count h w r sent known o m x may was_sent serves others. (answered (setting targets (c.operations_have_laws.ensures.laws targets count)) h w r sent known o m x may was_sent serves, refl);
  repeated = λ targets count h w r sent known o t up q home reply seat is was_sent changes serves others. (answers (setting targets (c.operations_have_laws.ensures.laws targets count)) c.seats_are_last.ensures.last h w r sent known o t up q home reply seat is was_sent changes serves, refl);
  late = λ targets count h w r sent known o t up q home last reply seat later was_sent changes serves others. (late (setting targets (c.operations_have_laws.ensures.laws targets count)) c.seats_are_last.ensures.last h w r sent known o t up q home last reply seat was_sent changes serves later, refl);
  read = λ targets count h w r sent known o m a current was_sent read serves few answers heard reply settles others. (read_says (setting targets (c.operations_have_laws.ensures.laws targets count)) h w r sent known o m a current was_sent read serves few answers heard reply settles, refl);
}
