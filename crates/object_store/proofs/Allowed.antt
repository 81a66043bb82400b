-- What a body that is allowed has.
use Rattle.std.proofs.Common.{◌≡◌, ◌≤◌, true, refl, arith}
use Rattle.object_store.specs.declared.body.Body.{Body}
use Rattle.object_store.specs.declared.body.ObjectKind.{ObjectKind}
use Rattle.object_store.specs.declared.body.ObjectKind.TheVariants.{File, Directory, Stripe}
use Rattle.object_store.specs.Bodies.{is_allowed, may_be}
use Rattle.object_store.specs.Objects.{root_body}

by_kind : (k : ObjectKind) (b : Body) → may_be k b ≡ true → (b.links ≤ 65000) × (b.mode ≤ 4095)
by_kind File b h = grind arith
by_kind Directory b h = grind arith
by_kind Stripe b h = grind arith

pub limits : (b : Body) → is_allowed b ≡ true → (b.links ≤ 65000) × (b.mode ≤ 4095)
unfolding is_allowed
limits b h = by_kind b.kind b h

pub root_allowed : is_allowed root_body ≡ true
unfolding is_allowed
root_allowed = refl
