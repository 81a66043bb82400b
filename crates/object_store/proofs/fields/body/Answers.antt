use Rattle.std.proofs.Common.{arith}
use Rattle.object_store.proofs.ImageBodies.{body_allowed}
use Rattle.object_store.proofs.fields.body.Goals as goal

pub returns-clause-allowed : goal.returns-clause-allowed
returns-clause-allowed c = body_allowed c.args.len c.args.rest.now c.in_ok-body.body c.in_ok-body.after.now (λ i. omega (arith, c.type_inv.rest i)) c.in_ok-body.ensures
