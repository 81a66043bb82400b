use Rattle.object_store.proofs.Images.{stored_none}
use Rattle.object_store.proofs.objects.Objects.none.Goals as goal

pub invariant_of-result : goal.invariant_of-result
invariant_of-result c = rw c.new.ensures.empty stored_none
