use Rattle.std.proofs.Common.{List, ℕ, sym, ap, subst, ◌∙◌, arith}
use Rattle.std.specs.List.{AllByRecursion}
use Rattle.std.specs.FinMap.{entries}
use Rattle.tree_model.specs.Fids.{fid_cmp}
use Rattle.tree_model.proofs.Maps.{fids_total, exact_fids}
use Rattle.tree_model.proofs.Texts.{entries_again}
use Rattle.object_store.specs.Objects.{ObjectMap}
use Rattle.object_store.specs.ImageText.{FitsObject, IsFront}
use Rattle.object_store.proofs.Spelled.{image_joined}
use Rattle.object_store.proofs.Fronts.{anyway, nothing, behind, in_two}
use Rattle.object_store.proofs.objects.Objects.encode.Goals as goal

pub returns-in_err-append-clause-front : goal.returns-in_err-append-clause-front
returns-in_err-append-clause-front c = anyway _ (nothing _ _ _ c.in_err-append.ensures.err)

pub returns-in_err-spell_objects-clause-front : goal.returns-in_err-spell_objects-clause-front
returns-in_err-spell_objects-clause-front c =
    let os = ap (λ (m : ObjectMap). entries m) c.inner.ensures ∙ entries_again fid_cmp fids_total exact_fids c.inner.result.now.entries c.spell_objects.ensures.ordered in
    let text = image_joined c.image_head.result c.args.self.now c.count.result c.inner.result.now.entries c.image_head.ensures c.count.ensures os in
    let front = behind c.image_head.result _ c.args.out.now _ _ c.in_ok-append.ensures.ok c.in_err-spell_objects.ensures.front in
    anyway _ (subst (λ (t : List ℕ). IsFront t c.args.out.now c.spell_objects.new.out) text front)

pub returns-clause-ok : goal.returns-clause-ok
returns-clause-ok c =
    let os = ap (λ (m : ObjectMap). entries m) c.inner.ensures ∙ entries_again fid_cmp fids_total exact_fids c.inner.result.now.entries c.spell_objects.ensures.ordered in
    let text = image_joined c.image_head.result c.args.self.now c.count.result c.inner.result.now.entries c.image_head.ensures c.count.ensures os in
    in_two _ _ _ _ _ _ c.in_ok-append.ensures.ok c.in_ok-spell_objects.ensures.text text

pub returns-clause-fits : goal.returns-clause-fits
returns-clause-fits c =
    let os = ap (λ (m : ObjectMap). entries m) c.inner.ensures ∙ entries_again fid_cmp fids_total exact_fids c.inner.result.now.entries c.spell_objects.ensures.ordered in
    let is = c.count.ensures in
    let fits = c.count.type_inv in
    record { few = omega (arith, is, fits); each = subst (AllByRecursion FitsObject) (sym os) c.in_ok-spell_objects.ensures.fits }
