use Rattle.std.proofs.Common.{◌-◌, sym, ap, subst, ◌∙◌, arith}
use Rattle.std.specs.FinMap.{get, remove, from_entries}
use Rattle.tree_model.specs.Fids.{fid_cmp}
use Rattle.tree_model.proofs.Maps.{got, taken, fids_total, exact_fids}
use Rattle.object_store.specs.Objects.{ObjectMap}
use Rattle.object_store.specs.Sizes.{AreStored, size_at}
use Rattle.object_store.proofs.Totals.{weight_at}
use Rattle.object_store.proofs.Images.{image_taken, count_taken}
use Rattle.object_store.proofs.objects.Objects.take.Goals as goal

pub overflow_sub-self : goal.overflow_sub-self
overflow_sub-self c =
    let exact = c.self.invariant.exact in
    let there = got fid_cmp fids_total c.self.inside.inner.entries c.args.fid ∙ sym c.remove.ensures.value ∙ c.in-Some.is in
    let less = image_taken (from_entries c.self.inside.inner.entries) c.args.fid in
    let weight = ap (weight_at size_at c.args.fid) there in
    let was = c.size.ensures in
    omega (arith, exact, less, weight, was)

pub invariant_of-self : goal.invariant_of-self
invariant_of-self c =
    let exact = c.self.invariant.exact in
    let few = c.self.invariant.few in
    let there = got fid_cmp fids_total c.self.inside.inner.entries c.args.fid ∙ sym c.remove.ensures.value ∙ c.in-Some.is in
    let less = image_taken (from_entries c.self.inside.inner.entries) c.args.fid in
    let fewer = count_taken (from_entries c.self.inside.inner.entries) c.args.fid in
    let weight = ap (weight_at size_at c.args.fid) there in
    let was = c.size.ensures in
    subst (λ (m : ObjectMap). AreStored m (c.self.inside.size - c.size.result)) (sym (taken fid_cmp fids_total exact_fids c.self.inside.inner.entries c.remove.new.self.entries c.args.fid c.remove.ensures.updates.0))
    (record { few = omega (arith, few, fewer); small = omega (arith, c.self.invariant.small); exact = omega (arith, exact, less, weight, was) })

pub returns-in-Some-clause-value : goal.returns-in-Some-clause-value
returns-in-Some-clause-value c = sym c.in-Some.is ∙ c.remove.ensures.value ∙ sym (got fid_cmp fids_total c.self.inside.inner.entries c.args.fid) ∙ ap (λ (m : ObjectMap). get m c.args.fid) c.self.view_is

pub returns-in-Some-clause-taken : goal.returns-in-Some-clause-taken
returns-in-Some-clause-taken c =
    taken fid_cmp fids_total exact_fids c.self.inside.inner.entries c.remove.new.self.entries c.args.fid c.remove.ensures.updates.0 ∙ ap (λ (m : ObjectMap). remove m c.args.fid) c.self.view_is

pub returns-in-None-clause-value : goal.returns-in-None-clause-value
returns-in-None-clause-value c = sym c.in-None.is ∙ c.remove.ensures.value ∙ sym (got fid_cmp fids_total c.self.inside.inner.entries c.args.fid) ∙ ap (λ (m : ObjectMap). get m c.args.fid) c.self.view_is

pub returns-in-None-clause-taken : goal.returns-in-None-clause-taken
returns-in-None-clause-taken c =
    taken fid_cmp fids_total exact_fids c.self.inside.inner.entries c.remove.new.self.entries c.args.fid c.remove.ensures.updates.0 ∙ ap (λ (m : ObjectMap). remove m c.args.fid) c.self.view_is
