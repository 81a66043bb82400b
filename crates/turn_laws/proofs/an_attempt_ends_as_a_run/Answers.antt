use Rattle.update_protocol.proofs.Setting.{setting}
use Rattle.turn_laws.proofs.Given.{holds_of}
use Rattle.turn_laws.proofs.Ends.{ends_so}
use Rattle.turn_laws.proofs.an_attempt_ends_as_a_run.Goals as goal

pub returns : goal.returns
returns call targets count h c w r g to inside up going current synced flights released line quiet_line =
    let σ = setting targets (call.operations_have_laws.ensures.laws targets count) in ends_so σ c w (holds_of σ h w r) g to inside up going current synced flights released line quiet_line
