use Rattle.update_protocol.proofs.Setting.{setting}
use Rattle.update_protocol.proofs.Saying.{committed, executes, stopped, torn}
use Rattle.update_protocol.proofs.SayingAccept.{accepts}
use Rattle.update_protocol.proofs.SayingUp.{kept_image, new_image}
use Rattle.update_protocol.proofs.events_say_rows.Goals as goal

pub returns : goal.returns
returns c = record {
  accepted = λ targets count h w r sent known o m x may is was_sent serves rest. accepts (setting targets (c.operations_have_laws.ensures.laws targets count)) h w r sent known o m x may is was_sent serves rest;
  executed = λ targets count h w r sent known o n t may serves others. executes (setting targets (c.operations_have_laws.ensures.laws targets count)) h w r sent known o c.targets_are_those_of_the_parts.ensures n t may serves;
  committed = λ targets count h w r sent known o t others. committed (setting targets (c.operations_have_laws.ensures.laws targets count)) h w r sent known o t others;
  stopped = λ targets count h w r sent known o t others. stopped (setting targets (c.operations_have_laws.ensures.laws targets count)) h w r sent known o t others;
  torn = λ targets count h w r sent known o t others. torn (setting targets (c.operations_have_laws.ensures.laws targets count)) h w r sent known o t others;
  kept_image = λ targets count h w r sent known o t others. kept_image (setting targets (c.operations_have_laws.ensures.laws targets count)) h w r sent known o c.targets_are_those_of_the_parts.ensures t others;
  new_image = λ targets count h w r sent known o t may others. new_image (setting targets (c.operations_have_laws.ensures.laws targets count)) h w r sent known o c.targets_are_those_of_the_parts.ensures t others may;
}
