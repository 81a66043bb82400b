use Rattle.update_protocol.proofs.Setting.{setting}
use Rattle.turn_laws.proofs.Given.{holds_of, placed_from}
use Rattle.turn_laws.proofs.HoldComes.{holds}
use Rattle.turn_laws.proofs.a_hold_is_a_run.Goals as goal

pub returns : goal.returns
returns call targets count h c w r g k to inside up m is_to home q fits tied =
    let σ = setting targets (call.operations_have_laws.ensures.laws targets count) in
    let i = holds_of σ h w r in
    holds σ c w i g k to inside up m is_to home q (placed_from targets count call.histories_keep_trees_sound.ensures.histories call.parts_are_of_written_objects.ensures.names call.parts_are_of_written_objects.ensures.here w.base w.since i.follows) fits tied
