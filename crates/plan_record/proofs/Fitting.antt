-- Updates that have a spelling in a record, and how many and how long they are.
use Rattle.std.proofs.Common.{◌≡◌, ◌≤◌, ◌<◌, ◌^◌, ◌+◌, ℕ, not, Bool, true, false, if◌then◌else◌, List, [], ◌∷◌, ◌++◌, length, Some, refl, arith, length-append}
use Rattle.std.proofs.lemmas.Bool.{eq-eqb}
use Rattle.std.specs.List.{AllByRecursion, flat_map}
use Rattle.fid_space.specs.declared.fid.Fid.{Fid}
use Rattle.fid_space.specs.FidText.{IsFid}
use Rattle.out_update.specs.declared.update.Update.{Update}
use Rattle.out_update.specs.declared.update.Kind.{Kind}
use Rattle.out_update.specs.Types.{is_read, shapes}
use Rattle.out_update.specs.Spelling.{FitsParams, FitsUpdateOf, update_text, updates_text}
use Rattle.plan_base.specs.Updates.{Placed, on_target}
use Rattle.plan_record.proofs.Texts.{cost, update_short}

abbrev pub Spells : ℕ → Update → Type 0
Spells batch u = FitsUpdateOf (Some batch) u

abbrev pub AllSpell : ℕ → List Placed → Type 0
AllSpell batch placed = AllByRecursion (λ (p : Placed). AllByRecursion (Spells batch) p.1) placed

abbrev pub count_of : List Placed → ℕ
count_of [] = 0
count_of (p ∷ ps) = length p.1 + count_of ps

abbrev pub texts_of : List Placed → ℕ
texts_of [] = 0
texts_of (p ∷ ps) = length (updates_text p.1) + texts_of ps

-- each has a spelling, there are at most so many, and their texts have at most so many bytes
pub record Fits (batch count bytes : ℕ) (placed : List Placed) : Type 0 where
  pub each : AllSpell batch placed
  pub few : count_of placed ≤ count
  pub short : texts_of placed ≤ bytes

pub spell : (batch : ℕ) (k : Kind) (f : Fid) (ps : List (List ℕ)) → batch < 2 ^ 64 → not (is_read k) ≡ true → IsFid f → FitsParams (shapes k) ps → Spells batch (record { kind = k; batch = batch; fid = f; params = ps })
spell batch k f ps small writes is fits = record { stands = writes; batch = small; batch_set = eq-eqb batch batch refl; fid = is; params = fits }

pub texts_app : (us vs : List Update) → length (updates_text (us ++ vs)) ≡ length (updates_text us) + length (updates_text vs)
unfolding updates_text
texts_app [] vs = omega arith
texts_app (u ∷ us) vs =
    let rest = texts_app us vs in
    let a = length-append (update_text u) (flat_map update_text (us ++ vs)) in
    let b = length-append (update_text u) (flat_map update_text us) in
    omega (arith, rest, a, b)

one_text : (u : Update) → length (updates_text (u ∷ [])) ≡ length (update_text u)
unfolding updates_text
one_text u = let a = length-append (update_text u) [] in omega (arith, a)

pub all_join : (batch : ℕ) (ps qs : List Placed) → AllSpell batch ps → AllSpell batch qs → AllSpell batch (ps ++ qs)
all_join batch [] qs a b = b
all_join batch (p ∷ ps) qs a b = (a.0, all_join batch ps qs a.1 b)

count_join : (ps qs : List Placed) → count_of (ps ++ qs) ≡ count_of ps + count_of qs
count_join [] qs = omega arith
count_join (p ∷ ps) qs = let rest = count_join ps qs in omega (arith, rest)

texts_join : (ps qs : List Placed) → texts_of (ps ++ qs) ≡ texts_of ps + texts_of qs
texts_join [] qs = omega arith
texts_join (p ∷ ps) qs = let rest = texts_join ps qs in omega (arith, rest)

module _ {batch : ℕ} where
  pub fits_none : Fits batch 0 0 []
  fits_none = record { each = tt; few = omega arith; short = omega arith }

  pub fits_one : (t : ℕ) (u : Update) (n k : ℕ) (ps : List Placed) → Spells batch u → Fits batch n k ps → Fits batch (1 + n) (cost u.kind + k) (on_target t u ∷ ps)
  fits_one t u n k ps spells fits =
      let few = fits.few in
      let short = fits.short in
      let here = update_short (Some batch) u spells in
      let text = one_text u in
      record { each = ((spells, tt), fits.each); few = omega (arith, few); short = omega (arith, short, here, text) }

  pub fits_most : (n m j k : ℕ) (ps : List Placed) → n ≤ m → j ≤ k → Fits batch n j ps → Fits batch m k ps
  fits_most n m j k ps a b fits =
      let few = fits.few in
      let short = fits.short in
      record { each = fits.each; few = omega (arith, a, few); short = omega (arith, b, short) }

  pub fits_join : (n m j k : ℕ) (ps qs : List Placed) → Fits batch n j ps → Fits batch m k qs → Fits batch (n + m) (j + k) (ps ++ qs)
  fits_join n m j k ps qs a b =
      let few = a.few in
      let more = b.few in
      let short = a.short in
      let long = b.short in
      let count = count_join ps qs in
      let texts = texts_join ps qs in
      record { each = all_join batch ps qs a.each b.each; few = omega (arith, few, more, count); short = omega (arith, short, long, texts) }

  pub fits_if : (b : Bool) (n k : ℕ) (ps qs : List Placed) → Fits batch n k ps → Fits batch n k qs → Fits batch n k (if b then ps else qs)
  fits_if true n k ps qs a c = a
  fits_if false n k ps qs a c = c
