use Rattle.std.proofs.Common.{◌≡◌, ◌<◌, ◌^◌, ◌+◌, Some, None, sym, ap, subst, ◌∙◌, arith}
use Rattle.std.specs.Option.{option_copied}
use Rattle.std.specs.FinMap.{get, len}
use Rattle.std.proofs.lemmas.Result.{IfOk-weaker}
use Rattle.tree_model.specs.Fids.{fid_cmp}
use Rattle.tree_model.proofs.Maps.{got, fids_total, exact_fids}
use Rattle.tree_model.proofs.Texts.{len_again}
use Rattle.object_store.specs.Objects.{ObjectMap}
use Rattle.object_store.specs.Sizes.{AreStored, size_at}
use Rattle.object_store.proofs.Totals.{weight_at}
use Rattle.object_store.proofs.Images.{image_put, image_taken, count_put}
use Rattle.object_store.proofs.objects.Objects.size_with.Goals as goal

pub replaced-requires : goal.replaced-requires
replaced-requires c =
    let exact = (subst (λ (m : ObjectMap). AreStored m c.self.inside.size) c.self.view_is c.self.invariant).exact in
    let there = ap (λ (m : ObjectMap). get m c.args.fid) (sym c.self.view_is) ∙ got fid_cmp fids_total c.self.inside.inner.entries c.args.fid ∙ sym c.get.ensures.value ∙ ap (λ o. option_copied o) c.in-Some.is in
    let less = image_taken c.args.self.now c.args.fid in
    let weight = ap (weight_at size_at c.args.fid) there in
    let was = c.size.ensures in
    omega (arith, exact, less, weight, was)

pub returns-in-Some : goal.returns-in-Some
returns-in-Some c =
    let stored = subst (λ (m : ObjectMap). AreStored m c.self.inside.size) c.self.view_is c.self.invariant in
    let exact = stored.exact in
    let there = ap (λ (m : ObjectMap). get m c.args.fid) (sym c.self.view_is) ∙ got fid_cmp fids_total c.self.inside.inner.entries c.args.fid ∙ sym c.get.ensures.value ∙ ap (λ o. option_copied o) c.in-Some.is in
    let weight = ap (weight_at size_at c.args.fid) there in
    let was = c.size.ensures in
    IfOk-weaker c.replaced.result (λ s. s + c.size.result ≡ c.self.inside.size + c.args.more) _ (λ s h o is.
    let more = image_put c.args.self.now c.args.fid o in
    (omega (arith, exact, more, weight, was, h, is), subst (λ n. n < 2 ^ 32) (sym (count_put c.args.self.now c.args.fid o (Some c.in-Some.old.now) there)) stored.few)) c.replaced.ensures

pub returns-in-None : goal.returns-in-None
returns-in-None c =
    let exact = (subst (λ (m : ObjectMap). AreStored m c.self.inside.size) c.self.view_is c.self.invariant).exact in
    let there = ap (λ (m : ObjectMap). get m c.args.fid) (sym c.self.view_is) ∙ got fid_cmp fids_total c.self.inside.inner.entries c.args.fid ∙ sym c.get.ensures.value ∙ ap (λ o. option_copied o) c.in-None.is in
    let weight = ap (weight_at size_at c.args.fid) there in
    let count = c.len.ensures.len ∙ sym (len_again fid_cmp fids_total exact_fids c.self.inside.inner.entries c.len.ensures.ordered) ∙ ap (λ (m : ObjectMap). len m) c.self.view_is in
    IfOk-weaker c.longer.result (λ s. (s ≡ c.self.inside.size + c.args.more) × (c.len.result + 1 < 2 ^ 32)) _ (λ s h o is.
    let more = image_put c.args.self.now c.args.fid o in
    let one = count_put c.args.self.now c.args.fid o None there in
    let sum = h.0 in
    let few = h.1 in
    (omega (arith, exact, more, weight, sum, is), omega (arith, one, few, count))) c.longer.ensures
