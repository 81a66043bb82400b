use Rattle.update_protocol.proofs.Setting.{setting}
use Rattle.turn_laws.proofs.Given.{holds_of}
use Rattle.turn_laws.proofs.ExecuteComes.{executes}
use Rattle.turn_laws.proofs.an_execute_is_a_run.Goals as goal

pub returns : goal.returns
returns call targets count h c w r g k to inside up m is_to entry tied =
    let σ = setting targets (call.operations_have_laws.ensures.laws targets count) in executes σ c w (holds_of σ h w r) g k to inside up m is_to entry tied
