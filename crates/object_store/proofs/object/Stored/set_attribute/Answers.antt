use Rattle.std.proofs.Common.{◌≡◌, ◌<◌, ◌^◌, sym, subst}
use Rattle.std.specs.FinMap.{len, insert}
use Rattle.object_store.specs.Objects.{Object}
use Rattle.object_store.specs.Sizes.{object_size}
use Rattle.object_store.specs.contracts.object.Stored.{the_view}
use Rattle.object_store.proofs.Keeping.{stored_attribute}
use Rattle.object_store.proofs.object.Stored.set_attribute.Goals as goal

pub invariant_of-self-2 : goal.invariant_of-self-2
invariant_of-self-2 c =
    let f = subst (λ (o : Object). (c.in_ok-size.size ≡ object_size (record o { attributes = insert o.attributes c.args.name c.args.value })) × (len (insert o.attributes c.args.name c.args.value) < 2 ^ 32)) (sym c.self.view_is) c.in_ok-size.ensures in
    rw c.in_ok-insert.ensures.ok (stored_attribute (the_view c.self.inside) c.args.name c.args.value c.self.inside.size c.in_ok-size.size c.self.invariant c.requires f.1 f.0)
