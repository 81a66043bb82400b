use Rattle.update_protocol.proofs.Setting.{setting}
use Rattle.turn_laws.proofs.Given.{holds_of}
use Rattle.turn_laws.proofs.ReleaseComes.{releases}
use Rattle.turn_laws.proofs.a_release_is_a_run.Goals as goal

pub returns : goal.returns
returns call targets count h c w r g k to inside up m is_to tied = let σ = setting targets (call.operations_have_laws.ensures.laws targets count) in releases σ c w (holds_of σ h w r) g k to inside up m is_to tied
