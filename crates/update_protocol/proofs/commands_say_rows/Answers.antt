use Rattle.update_protocol.proofs.Setting.{setting}
use Rattle.std.proofs.Common.{ap, refl}
use Rattle.tree_model.specs.History.{tree_of}
use Rattle.update_protocol.proofs.SayingAccept.{history_is}
use Rattle.update_protocol.proofs.SayingLog.{log_says}
use Rattle.update_protocol.proofs.commands_say_rows.Goals as goal

pub returns : goal.returns
returns c = record {
  made = λ targets s. refl;
  sent = λ targets w o request. refl;
  tree = λ targets count h w r sent known o serves others. (serves, ap (tree_of targets) (history_is (setting targets (c.operations_have_laws.ensures.laws targets count)) h w r sent known o), refl);
  log = λ targets count h w r sent known o t indexes rises many stands others. (stands, log_says (setting targets (c.operations_have_laws.ensures.laws targets count)) h w r sent known o c.targets_are_those_of_the_parts.ensures t indexes rises many, refl);
}
