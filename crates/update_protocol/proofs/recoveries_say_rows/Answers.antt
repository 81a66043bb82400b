use Rattle.std.proofs.Common.{[], length, refl, true, ◌+◌, ◌++◌, ◌∷◌}
use Rattle.update_protocol.proofs.Setting.{setting}
use Rattle.update_protocol.proofs.SayingLog.{emptied_log, redone_log}
use Rattle.update_protocol.proofs.SayingRecovery.{gathered_is, kept_image, redone_image, redone_says, stop_says}
use Rattle.update_protocol.specs.Epochs.{kept_of}
use Rattle.update_protocol.specs.Events.{fresh}
use Rattle.update_protocol.specs.Machine.{Recovered, Serving}
use Rattle.update_protocol.specs.States.{redone_lines, state_of}
use Rattle.update_protocol.specs.World.{after_items}
use Rattle.update_protocol.proofs.SayingWhole.{command_says, whole_says}
use Rattle.update_protocol.proofs.SayingRecovered.{recovers, renewed_image}
use Rattle.update_protocol.proofs.recoveries_say_rows.Goals as goal

pub returns : goal.returns
returns c =
    let sets = c.targets_are_those_of_the_parts.ensures in
    record {
      gathered = λ targets count h w r o all. gathered_is (setting targets (c.operations_have_laws.ensures.laws targets count)) h w r o all;
      log = λ targets count h w r sent known o disks mark gone kept g t indexes rises many stands others. (stands, redone_log (setting targets (c.operations_have_laws.ensures.laws targets count)) h w r sent known o sets t indexes disks mark gone kept g rises many, refl);
      emptied_log = λ targets count h w r sent known o disks mark gone kept g nothing_left t stands others. (stands, emptied_log (setting targets (c.operations_have_laws.ensures.laws targets count)) h w r sent known o sets t [] disks mark gone kept g nothing_left, refl);
      stopped = stop_says;
      renewed_image = λ targets count h story e sent known o t others. renewed_image (setting targets (c.operations_have_laws.ensures.laws targets count)) sets h story e o sent known t others;
      recovered = λ targets count h story e sent known o epoch later one_more kept lost split s others. recovers (setting targets (c.operations_have_laws.ensures.laws targets count)) sets h story e o sent known epoch later one_more kept lost split s;
      whole = λ targets count h story e sent known o epoch later one_more kept lost split s. whole_says (setting targets (c.operations_have_laws.ensures.laws targets count)) sets h story e sent known o (Recovered epoch kept lost ∷ []) (state_of targets (record { sent = o.sent; epoch = epoch; smooth = true; standing = λ t. Serving; start = λ t. o.start t + length (e.disks t) }) (fresh s (after_items h (kept_of targets h e)))) (_, recovers (setting targets (c.operations_have_laws.ensures.laws targets count)) sets h story e o sent known epoch later one_more kept lost split s, refl);
      command = λ targets count h story e sent known o epoch later one_more kept lost split s w r known_then ts ups is. command_says (setting targets (c.operations_have_laws.ensures.laws targets count)) sets h story e sent known o w r known_then ts ups is (redone_lines e.world.since e.redos ++ Recovered epoch kept lost ∷ []) (state_of targets (record { sent = o.sent; epoch = epoch; smooth = true; standing = λ t. Serving; start = λ t. o.start t + length (e.disks t) }) (fresh s (after_items h (kept_of targets h e)))) (whole_says (setting targets (c.operations_have_laws.ensures.laws targets count)) sets h story e sent known o (Recovered epoch kept lost ∷ []) (state_of targets (record { sent = o.sent; epoch = epoch; smooth = true; standing = λ t. Serving; start = λ t. o.start t + length (e.disks t) }) (fresh s (after_items h (kept_of targets h e)))) (_, recovers (setting targets (c.operations_have_laws.ensures.laws targets count)) sets h story e o sent known epoch later one_more kept lost split s, refl));
      redone = λ targets count base since disk mark gone kept g follows legal o t extra redo others. redone_says (setting targets (c.operations_have_laws.ensures.laws targets count)) sets base since disk mark gone kept g follows legal o t extra redo others;
      kept_image = λ targets count base since disk mark gone kept g follows legal o t others. kept_image (setting targets (c.operations_have_laws.ensures.laws targets count)) sets base since disk mark gone kept g follows legal o t others;
      redone_image = λ targets count base since disk mark gone kept g follows legal o t extra redo others. redone_image (setting targets (c.operations_have_laws.ensures.laws targets count)) sets base since disk mark gone kept g follows legal o t extra redo others;
    }
