-- What all parts list says whether a directory has more than 32 entries.
use Rattle.std.proofs.Common.{◌≡◌, ◌≢◌, ◌≤◌, ◌<◌, ◌+◌, ◌==◌, inl, inr, nat_lt, ℕ, zero, suc, Bool, true, false, if◌then◌else◌, List, [], ◌∷◌, ◌++◌, length, filter, take, refl, sym, ap, ◌∙◌, subst, arith, length-append}
use Rattle.std.proofs.lemmas.Bool.{eq-eqb}
use Rattle.std.proofs.lemmas.Bool.Decides.{eqb_tells, nat_tests}
use Rattle.std.proofs.lemmas.List.{length-take}
use Rattle.std.specs.FinMap.{len, entries, len-entries}
use Rattle.fid_space.specs.declared.fid.Fid.{Fid}
use Rattle.tree_model.specs.Tree.{Names}
use Rattle.striped_dir.specs.declared.layout.Layout.{Layout}
use Rattle.striped_dir.specs.Layouts.{laid}
use Rattle.striped_dir.specs.Parts.{part_of_name}
use Rattle.plan_base.specs.Places.{parts_of}
use Rattle.plan_laws.specs.Truth.{names_at, all_names_at}
use Rattle.plan_laws.proofs.Counting.{below_parts}

abbrev Entry : Type 0
Entry = List ℕ × Fid

module _ (p : Entry → ℕ) where
  abbrev of_part : ℕ → List Entry → List Entry
  of_part i es = filter (λ e. p e == i) es

  abbrev counted : List Entry → ℕ → ℕ → ℕ
  counted es i zero = 0
  counted es i (suc left) = length (of_part i es) + counted es (suc i) left

  abbrev listed : List Entry → ℕ → ℕ → List Entry
  listed es i zero = []
  listed es i (suc left) = take 33 (of_part i es) ++ listed es (suc i) left

  one_here : (e : Entry) (es : List Entry) (i : ℕ) (b : Bool) → (p e == i) ≡ b → length (of_part i (e ∷ es)) ≡ (if b then suc (length (of_part i es)) else length (of_part i es))
  one_here e es i true h = ap (λ b. length (if b then e ∷ of_part i es else of_part i es)) h
  one_here e es i false h = ap (λ b. length (if b then e ∷ of_part i es else of_part i es)) h

  none_counted : (i left : ℕ) → counted [] i left ≡ 0
  none_counted i zero = refl
  none_counted i (suc left) = let rest = none_counted (suc i) left in omega (arith, rest)

  one_later : (e : Entry) (es : List Entry) (i left : ℕ) → p e < i → counted (e ∷ es) i left ≡ counted es i left
  one_later e es i zero h = refl
  one_later e es i (suc left) h = elim (eqb_tells (p e) i) [
    | inl t ↦ let is = t.1 in absurd (omega (arith, h, is))
    | inr t ↦ let one = one_here e es i false t.0 in
        let rest = one_later e es (suc i) left (omega (arith, h)) in
        omega (arith, one, rest)
  ]

  one_more : (e : Entry) (es : List Entry) (i left : ℕ) → i ≤ p e → p e < i + left → counted (e ∷ es) i left ≡ suc (counted es i left)
  one_more e es i zero low high = absurd (omega (arith, low, high))
  one_more e es i (suc left) low high = elim (eqb_tells (p e) i) [
    | inl t ↦ let is = t.1 in
        let one = one_here e es i true t.0 in
        let rest = one_later e es (suc i) left (omega (arith, is)) in
        omega (arith, one, rest)
    | inr t ↦ let ne = t.1 in
        let one = one_here e es i false t.0 in
        let rest = one_more e es (suc i) left (omega (arith, low, ne)) (omega (arith, high)) in
        omega (arith, one, rest)
  ]

  all_counted : (n : ℕ) → ((e : Entry) → p e < n) → (es : List Entry) → counted es 0 n ≡ length es
  all_counted n below [] = none_counted 0 n
  all_counted n below (e ∷ es) =
      let low = below e in
      let one = one_more e es 0 n (omega arith) (omega (arith, low)) in
      let rest = all_counted n below es in
      omega (arith, one, rest)

  -- as long as few are listed, all are
  few_listed : (es : List Entry) (i left : ℕ) → (length (listed es i left) ≤ counted es i left) × (length (listed es i left) ≤ 32 → length (listed es i left) ≡ counted es i left)
  few_listed es i zero = (omega arith, λ h. refl)
  few_listed es i (suc left) =
      let rest = few_listed es (suc i) left in
      let all = length-append (take 33 (of_part i es)) (listed es (suc i) left) in
      let some = length-take 33 (of_part i es) in
      let low = rest.0 in (
        omega (arith, all, some, low),
        λ h. let fits : length (listed es (suc i) left) ≤ 32 = omega (arith, all, h) in
            let same = rest.1 fits in
            omega (arith, all, some, same, h),
      )

listed_is : (layout : Layout) (names : Names) (i left : ℕ) → all_names_at layout names i left ≡ listed (λ e. part_of_name (laid layout) e.0) (entries names) i left
unfolding all_names_at
listed_is layout names i zero = refl
listed_is layout names i (suc left) = ap (λ es. names_at layout names i ++ es) (listed_is layout names (suc i) left)

same_more : (a b : ℕ) → a ≤ b → (a ≤ 32 → a ≡ b) → nat_lt 32 a ≡ nat_lt 32 b
same_more a b low same = by_test (nat_lt 32 a) refl
  where
    by_test : (t : Bool) → nat_lt 32 a ≡ t → nat_lt 32 a ≡ nat_lt 32 b
    by_test true h = h ∙ sym above
      where
        above : nat_lt 32 b ≡ true
        above = grind (arith, nat_tests)
    by_test false h = ap (λ n. nat_lt 32 n) (same below)
      where
        below : a ≤ 32
        below = grind (arith, nat_tests)

pub many_listed : (layout : Layout) (names : Names) → nat_lt 32 (length (all_names_at layout names 0 (parts_of (laid layout)))) ≡ nat_lt 32 (len names)
many_listed layout names =
    let p : Entry → ℕ = λ e. part_of_name (laid layout) e.0 in
    let n = parts_of (laid layout) in
    let few = few_listed p (entries names) 0 n in
    let all = all_counted p n (λ e. below_parts (laid layout) e.0) (entries names) in
    ap (λ es. nat_lt 32 (length es)) (listed_is layout names 0 n) ∙ same_more (length (listed p (entries names) 0 n)) (counted p (entries names) 0 n) few.0 few.1
    ∙ ap (λ m. nat_lt 32 m) (all ∙ sym (len-entries names))
