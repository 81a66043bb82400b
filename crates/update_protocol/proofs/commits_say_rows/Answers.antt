use Rattle.update_protocol.proofs.Setting.{setting}
use Rattle.update_protocol.proofs.SayingCommits.{commits_say, end_says, end_shares, reached_all}
use Rattle.update_protocol.proofs.commits_say_rows.Goals as goal

pub returns : goal.returns
returns c = record {
  reached = λ targets count h w r ts ups. reached_all (setting targets (c.operations_have_laws.ensures.laws targets count)) h ts w r ups;
  said = λ targets count h w r sent known o ts ups ends next says. commits_say (setting targets (c.operations_have_laws.ensures.laws targets count)) h sent o ends next ts w r known ups says;
  ended = λ targets count h w r sent known o ts ups serves. end_says (setting targets (c.operations_have_laws.ensures.laws targets count)) h w r ts ups sent known o serves;
  disks = λ targets count h w r ts ups t lt m free. end_shares (setting targets (c.operations_have_laws.ensures.laws targets count)) h w r ts ups t lt m free;
}
