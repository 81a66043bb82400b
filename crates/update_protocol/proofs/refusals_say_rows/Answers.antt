use Rattle.std.proofs.Common.{inl, refl}
use Rattle.update_protocol.proofs.Setting.{setting}
use Rattle.update_protocol.proofs.SayingRefusals.{full_says, other_stopped, shared_says}
use Rattle.update_protocol.proofs.refusals_say_rows.Goals as goal

pub returns : goal.returns
returns c = record {
  home_stopped = λ targets count h w r sent known o q t was_sent home stopped others. (record { request = q; was_sent = was_sent; numbered = refl; stopped = stopped; needs = inl home }, refl);
  other_stopped = λ targets count h w r sent known o m a current was_sent few answers heard t needs stopped others. (other_stopped (setting targets (c.operations_have_laws.ensures.laws targets count)) h w r sent known o m a current was_sent few answers heard t needs stopped, refl);
  full = λ targets count h w r sent known o m a current was_sent few answers heard changes serves t load takes_part too_much others. (full_says (setting targets (c.operations_have_laws.ensures.laws targets count)) h w r sent known o m a current was_sent few answers heard changes serves t load takes_part too_much, refl);
  shared = λ targets count h w r sent known o few a t k asked on up holder n pends was_sent others. (shared_says (setting targets (c.operations_have_laws.ensures.laws targets count)) h w r sent known o c.targets_are_those_of_the_parts.ensures few a t k asked on up holder n pends was_sent, refl);
}
