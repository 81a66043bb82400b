use Rattle.update_protocol.proofs.Setting.{setting}
use Rattle.turn_laws.proofs.Given.{holds_of}
use Rattle.home_laws.proofs.Finishes.{hears_so}
use Rattle.home_laws.proofs.an_answer_goes_on_as_a_run.Goals as goal

pub returns : goal.returns
returns call targets count h c w r g numbered to inside up going current synced f e of s =
    let σ = setting targets (call.operations_have_laws.ensures.laws targets count) in hears_so σ c w (holds_of σ h w r) g numbered to inside up going current synced f e of s
