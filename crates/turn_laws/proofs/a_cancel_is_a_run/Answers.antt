use Rattle.update_protocol.proofs.Setting.{setting}
use Rattle.turn_laws.proofs.Given.{holds_of}
use Rattle.turn_laws.proofs.CancelComes.{cancels_so}
use Rattle.turn_laws.proofs.a_cancel_is_a_run.Goals as goal

pub returns : goal.returns
returns call targets count h c w r g to inside up of mark came = let σ = setting targets (call.operations_have_laws.ensures.laws targets count) in cancels_so σ c w (holds_of σ h w r) g to inside up of mark came
