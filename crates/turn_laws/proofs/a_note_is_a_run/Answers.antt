use Rattle.update_protocol.proofs.Setting.{setting}
use Rattle.turn_laws.proofs.Given.{holds_of}
use Rattle.turn_laws.proofs.Notes.{notes_so, told_by}
use Rattle.turn_laws.proofs.a_note_is_a_run.Goals as goal

pub returns : goal.returns
returns call targets count h c w r g to inside up from batch low came =
    let σ = setting targets (call.operations_have_laws.ensures.laws targets count) in notes_so σ c w (holds_of σ h w r) g to inside up from batch low (told_by targets w to from batch came)
