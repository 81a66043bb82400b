use Rattle.std.proofs.Common.{◌≡◌, sym, subst}
use Rattle.std.specs.FinMap.{remove}
use Rattle.object_store.specs.Objects.{Object}
use Rattle.object_store.specs.Sizes.{object_size}
use Rattle.object_store.specs.contracts.object.Stored.{the_view}
use Rattle.object_store.proofs.Keeping.{stored_without_attribute}
use Rattle.object_store.proofs.object.Stored.drop_attribute.Goals as goal

pub invariant_of-self : goal.invariant_of-self
invariant_of-self c =
    let f = subst (λ (o : Object). c.size_without_attribute-size.result ≡ object_size (record o { attributes = remove o.attributes c.args.name.now })) (sym c.self.view_is) c.size_without_attribute-size.ensures in
    rw c.remove.ensures (stored_without_attribute (the_view c.self.inside) c.args.name.now c.self.inside.size c.size_without_attribute-size.result c.self.invariant f)
