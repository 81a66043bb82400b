use Rattle.op_laws.proofs.Final.{wrote_near, saw_near, tells_near}
use Rattle.op_laws.proofs.objects_have_keys_of_their_owners.Goals as goal

pub returns : goal.returns
returns c = record { wrote = wrote_near; saw = saw_near; near = tells_near }
