-- A directory has no entry where none of its parts has one.
use Rattle.std.proofs.lemmas.Bool.{eq-eqb, eqb-true, eqb-false}
use Rattle.std.proofs.Math.Dec.{eqb-suc-zero}
use Rattle.std.proofs.Common.{subst, ◌≡◌, ◌≢◌, ◌<◌, ◌≤◌, ℕ, zero, suc, ◌+◌, ◌%◌, ◌==◌, ◌&&◌, Bool, true, false, if◌then◌else◌, List, [], ◌∷◌, length, filter, refl, sym, ap, ◌∙◌, arith}
use Rattle.std.specs.FinMap.{len, entries, len-entries}
use Rattle.fid_space.specs.declared.fid.Fid.{Fid}
use Rattle.tree_model.specs.Tree.{Names}
use Rattle.tree_model.specs.Keys.{Layout as LaidOut}
use Rattle.tree_model.specs.Striped.{fnv1a_64}
use Rattle.striped_dir.specs.declared.layout.Layout.{Layout}
use Rattle.striped_dir.specs.Layouts.{laid}
use Rattle.striped_dir.specs.Parts.{part_of_name}
use Rattle.plan_base.specs.Places.{parts_of}
use Rattle.plan_laws.specs.Truth.{count_of, none_of}

abbrev Entry : Type 0
Entry = List ℕ × Fid

-- the same over lists
none_in : (Entry → ℕ) → List Entry → ℕ → ℕ → Bool
none_in p es i zero = true
none_in p es i (suc left) = (length (filter (λ e. p e == i) es) == 0) && none_in p es (suc i) left

none_is : (layout : Layout) (names : Names) (i left : ℕ) → none_of layout names i left ≡ none_in (λ e. part_of_name (laid layout) e.0) (entries names) i left
unfolding none_of none_in
none_is layout names i zero = refl
none_is layout names i (suc left) = ap (λ b. (count_of layout names i == 0) && b) (none_is layout names (suc i) left)

no_entry : (p : Entry → ℕ) (i left : ℕ) → none_in p [] i left ≡ true
unfolding none_in
no_entry p i zero = refl
no_entry p i (suc left) = no_entry p (suc i) left

both_false : (b c : Bool) → c ≡ false → (b && c) ≡ false
both_false true c e = e
both_false false c e = refl

-- the part of the first entry has one
one_counted : (p : Entry → ℕ) (e : Entry) (es : List Entry) (i : ℕ) → p e ≡ i → (length (filter (λ x. p x == i) (e ∷ es)) == 0) ≡ false
one_counted p e es i h = counted (p e == i) (eq-eqb (p e) i h)
  where
    counted : (b : Bool) → b ≡ true → (length (if b then e ∷ filter (λ x. p x == i) es else filter (λ x. p x == i) es) == 0) ≡ false
    counted true h = eqb-suc-zero (length (filter (λ x. p x == i) es))
    counted false h = cc

some_entry : (p : Entry → ℕ) (e : Entry) (es : List Entry) (i left : ℕ) → i ≤ p e → p e < i + left → none_in p (e ∷ es) i left ≡ false
unfolding none_in
some_entry p e es i zero h k = absurd (omega arith)
some_entry p e es i (suc left) h k = by_part (p e == i) refl (λ (n : suc i ≤ p e). some_entry p e es (suc i) left n (omega arith))
  where
    by_part : (b : Bool) → (p e == i) ≡ b → (suc i ≤ p e → none_in p (e ∷ es) (suc i) left ≡ false)
        → ((length (filter (λ x. p x == i) (e ∷ es)) == 0) && none_in p (e ∷ es) (suc i) left) ≡ false
    by_part true q more = ap (λ b. b && none_in p (e ∷ es) (suc i) left) (one_counted p e es i (eqb-true (p e) i q))
    by_part false q more =
        let ne : p e ≢ i = eqb-false (p e) i q in
        both_false (length (filter (λ x. p x == i) (e ∷ es)) == 0) (none_in p (e ∷ es) (suc i) left) (more (omega arith))

below : (x : List ℕ) (c s g : ℕ) → part_of_name (record { count = c; start = s; generation = g }) x < parts_of (record { count = c; start = s; generation = g })
below x zero s g = omega arith
below x (suc n) s g =
    let m : fnv1a_64 x % suc n < suc n = omega arith in
    subst (λ b. fnv1a_64 x % suc n < (if b then 1 else suc n)) (sym (eqb-suc-zero n)) m

pub below_parts : (l : LaidOut) (x : List ℕ) → part_of_name l x < parts_of l
below_parts l x = below x l.count l.start l.generation

by_entries : (layout : Layout) (es : List Entry) → none_in (λ e. part_of_name (laid layout) e.0) es 0 (parts_of (laid layout)) ≡ (length es == 0)
by_entries layout [] = no_entry (λ e. part_of_name (laid layout) e.0) 0 (parts_of (laid layout))
by_entries layout (e ∷ es) =
    let h = below_parts (laid layout) e.0 in
    some_entry (λ x. part_of_name (laid layout) x.0) e es 0 (parts_of (laid layout)) (omega arith) (omega (arith, h)) ∙ sym (eqb-suc-zero (length es))

pub no_names : (layout : Layout) (names : Names) → none_of layout names 0 (parts_of (laid layout)) ≡ (len names == 0)
no_names layout names = none_is layout names 0 (parts_of (laid layout)) ∙ by_entries layout (entries names) ∙ ap (λ n. n == 0) (sym (len-entries names))
