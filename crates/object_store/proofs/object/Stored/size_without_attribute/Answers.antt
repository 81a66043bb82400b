use Rattle.std.proofs.Common.{sym, ap, subst, ◌∙◌, arith}
use Rattle.std.specs.Option.{option_map}
use Rattle.std.specs.FinMap.{get}
use Rattle.object_store.specs.Objects.{Object}
use Rattle.object_store.specs.Sizes.{IsStored, attribute_size}
use Rattle.object_store.proofs.Totals.{weight_at}
use Rattle.object_store.proofs.Keeping.{attribute_less}
use Rattle.object_store.proofs.object.Stored.size_without_attribute.Goals as goal

pub overflow_sub-result : goal.overflow_sub-result
overflow_sub-result c =
    let exact = (subst (λ (o : Object). IsStored o c.self.inside.size) c.self.view_is c.self.invariant).exact in
    let there = ap (λ (o : Object). get o.attributes c.args.name.now) (sym c.self.view_is) ∙ sym c.get.ensures ∙ ap (λ o. option_map (λ v. v.now) o) c.in-Some.is in
    let less = attribute_less c.args.self.now c.args.name.now in
    let weight = ap (weight_at attribute_size c.args.name.now) there in
    let bytes = c.attribute_size.ensures.value in
    omega (arith, exact, less, weight, bytes)

pub returns-in-Some : goal.returns-in-Some
returns-in-Some c =
    let exact = (subst (λ (o : Object). IsStored o c.self.inside.size) c.self.view_is c.self.invariant).exact in
    let there = ap (λ (o : Object). get o.attributes c.args.name.now) (sym c.self.view_is) ∙ sym c.get.ensures ∙ ap (λ o. option_map (λ v. v.now) o) c.in-Some.is in
    let less = attribute_less c.args.self.now c.args.name.now in
    let weight = ap (weight_at attribute_size c.args.name.now) there in
    let bytes = c.attribute_size.ensures.value in
    omega (arith, exact, less, weight, bytes)

pub returns-in-None : goal.returns-in-None
returns-in-None c =
    let exact = (subst (λ (o : Object). IsStored o c.self.inside.size) c.self.view_is c.self.invariant).exact in
    let there = ap (λ (o : Object). get o.attributes c.args.name.now) (sym c.self.view_is) ∙ sym c.get.ensures ∙ ap (λ o. option_map (λ v. v.now) o) c.in-None.is in
    let less = attribute_less c.args.self.now c.args.name.now in
    let weight = ap (weight_at attribute_size c.args.name.now) there in
    omega (arith, exact, less, weight)
