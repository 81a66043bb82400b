use Rattle.object_store.proofs.Keeping.{stored_fresh}
use Rattle.object_store.proofs.object.Stored.new.Goals as goal

pub invariant_of-result : goal.invariant_of-result
invariant_of-result c = rw (c.new.ensures, c.new-2.ensures) (stored_fresh c.args.body c.requires)
