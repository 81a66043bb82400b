-- What is known of the parameters of an update that fits.
use Rattle.std.proofs.Common.{◌≡◌, ◌≤◌, ℕ, List, [], ◌∷◌, length, refl, ap, subst, arith}
use Rattle.out_update.specs.declared.update.Update.{Update}
use Rattle.out_update.specs.declared.update.Kind.TheVariants as kind
use Rattle.out_update.specs.declared.shape.Shape.TheVariants as shape
use Rattle.out_update.specs.Types.{shapes}
use Rattle.out_update.specs.Spelling.{FitsUpdate, FitsParams}
use Rattle.object_store.specs.Meaning.{param}

second_short : (u : Update) (ps : List (List ℕ)) → u.params ≡ ps → FitsParams (shape.Name ∷ shape.Value ∷ []) ps → length (param u 1) ≤ 4096
unfolding FitsParams
second_short u [] is h = absurd h
second_short u (p ∷ []) is h = absurd h.1
second_short u (p ∷ q ∷ ps) is h =
    let e = ap (λ l. length (param (record u { params = l }) 1)) is in
    let a = h.1.0.length_allowed in
    grind (arith, e, a)

-- the value of an attribute is short
pub value_short : (u : Update) → FitsUpdate u → u.kind ≡ kind.XattrSet → length (param u 1) ≤ 4096
value_short u fits is = second_short u u.params refl (subst (λ k. FitsParams (shapes k) u.params) is fits.params)
