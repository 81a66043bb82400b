use Rattle.std.proofs.Common.{◌≡◌, ◌<◌, ◌^◌, ◌+◌, Some, None, sym, ap, subst, ◌∙◌, arith}
use Rattle.std.specs.Option.{option_map}
use Rattle.std.specs.FinMap.{get, len}
use Rattle.std.proofs.lemmas.Result.{IfOk-weaker}
use Rattle.object_store.specs.Objects.{Object}
use Rattle.object_store.specs.Sizes.{IsStored, attribute_size}
use Rattle.object_store.proofs.Totals.{weight_at}
use Rattle.object_store.proofs.Keeping.{attribute_set, attribute_less, attribute_count}
use Rattle.object_store.proofs.object.Stored.size_with_attribute.Goals as goal

pub replaced-requires : goal.replaced-requires
replaced-requires c =
    let exact = (subst (λ (o : Object). IsStored o c.self.inside.size) c.self.view_is c.self.invariant).exact in
    let there = ap (λ (o : Object). get o.attributes c.args.name.now) (sym c.self.view_is) ∙ sym c.get.ensures ∙ ap (λ o. option_map (λ v. v.now) o) c.in-Some.is in
    let less = attribute_less c.args.self.now c.args.name.now in
    let weight = ap (weight_at attribute_size c.args.name.now) there in
    let bytes = c.attribute_size.ensures.value in
    omega (arith, exact, less, weight, bytes)

pub returns-in-Some : goal.returns-in-Some
returns-in-Some c =
    let stored = subst (λ (o : Object). IsStored o c.self.inside.size) c.self.view_is c.self.invariant in
    let exact = stored.exact in
    let there = ap (λ (o : Object). get o.attributes c.args.name.now) (sym c.self.view_is) ∙ sym c.get.ensures ∙ ap (λ o. option_map (λ v. v.now) o) c.in-Some.is in
    let set = attribute_set c.args.self.now c.args.name.now c.args.value.now in
    let weight = ap (weight_at attribute_size c.args.name.now) there in
    let was = c.attribute_size.ensures.value in
    let new = c.attribute_size-more.ensures.value in
    let count = attribute_count c.args.self.now c.args.name.now c.args.value.now (Some c.in-Some.old.now) there in
    IfOk-weaker c.replaced.result (λ s. s + c.attribute_size.result ≡ c.self.inside.size + c.attribute_size-more.result) _ (λ s h.
    (omega (arith, exact, set, weight, was, new, h), subst (λ n. n < 2 ^ 32) (sym count) stored.few_attributes)) c.replaced.ensures

pub returns-in-None : goal.returns-in-None
returns-in-None c =
    let exact = (subst (λ (o : Object). IsStored o c.self.inside.size) c.self.view_is c.self.invariant).exact in
    let there = ap (λ (o : Object). get o.attributes c.args.name.now) (sym c.self.view_is) ∙ sym c.get.ensures ∙ ap (λ o. option_map (λ v. v.now) o) c.in-None.is in
    let set = attribute_set c.args.self.now c.args.name.now c.args.value.now in
    let weight = ap (weight_at attribute_size c.args.name.now) there in
    let new = c.attribute_size-more.ensures.value in
    let one = attribute_count c.args.self.now c.args.name.now c.args.value.now None there in
    let count = c.len.ensures.value ∙ ap (λ (o : Object). len o.attributes) c.self.view_is in
    IfOk-weaker c.longer.result (λ s. (s ≡ c.self.inside.size + c.attribute_size-more.result) × (c.len.result + 1 < 2 ^ 32)) _ (λ s h.
    let sum = h.0 in
    let few = h.1 in
    (omega (arith, exact, set, weight, new, sum), omega (arith, one, count, few))) c.longer.ensures
