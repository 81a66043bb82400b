use Rattle.std.proofs.Common.{arith}
use Rattle.object_store.proofs.Imaged.{found, only}
use Rattle.object_store.proofs.objects.Objects.decode.Goals as goal

pub returns-clause-found : goal.returns-clause-found
returns-clause-found c = found c.args.bytes.now c.whole.result (λ i. omega (arith, c.type_inv.bytes i)) c.whole.ensures.value

pub returns-clause-only : goal.returns-clause-only
returns-clause-only c = only c.args.bytes.now c.whole.result c.whole.ensures.value
