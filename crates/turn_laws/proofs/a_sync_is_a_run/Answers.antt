use Rattle.update_protocol.proofs.Runs.{always}
use Rattle.update_protocol.proofs.Setting.{setting}
use Rattle.turn_laws.proofs.Given.{holds_of}
use Rattle.turn_laws.proofs.SyncComes.{syncs}
use Rattle.turn_laws.proofs.a_sync_is_a_run.Goals as goal

pub returns : goal.returns
returns call targets count h c w r g k to inside low up m is_to tied f = let σ = setting targets (call.operations_have_laws.ensures.laws targets count) in syncs σ c w (holds_of σ h w r) g k to inside low up (always σ) m is_to tied f
