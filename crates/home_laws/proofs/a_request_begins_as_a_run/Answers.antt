use Rattle.update_protocol.proofs.Setting.{setting}
use Rattle.home_laws.proofs.Begun.{begins_so}
use Rattle.home_laws.proofs.a_request_begins_as_a_run.Goals as goal

pub returns : goal.returns
returns call targets count h c w reached g numbered to inside up r sent unique more known home free client new f s =
    let σ = setting targets (call.operations_have_laws.ensures.laws targets count) in begins_so σ h c w reached g numbered to inside up r sent unique more known home free client new f s
