-- What all parts of a striped directory tell of its entries.
use Rattle.std.proofs.Common.{◌≡◌, ◌≢◌, ◌≤◌, ◌<◌, ◌+◌, ◌==◌, inl, inr, is_some, nat_lt, ℕ, zero, suc, Bool, true, false, cond, length, take, List, [], ◌∷◌, ◌++◌, Option, Some, None, refl, sym, ap, ◌∙◌, subst, arith, length-append}
use Rattle.std.proofs.lemmas.Bool.Decides.{eqb_tells, nat_tests}
use Rattle.std.proofs.lemmas.List.{length-take, take_all}
use Rattle.std.specs.Ordering.{eq_by_cmp}
use Rattle.std.specs.List.{range_with_len, flat_map}
use Rattle.std.specs.FinMap.{get, len, empty, insert, entries, from_entries, find, same_map, get-entries, get-from_entries, len-entries, len-insert, len-empty}
use Rattle.fid_space.specs.declared.fid.Fid.{Fid}
use Rattle.tree_model.specs.Fids.{name_cmp}
use Rattle.tree_model.specs.Tree.{Names}
use Rattle.tree_model.specs.Keys.{Layout}
use Rattle.tree_model.proofs.Maps.{names_total, exact_names}
use Rattle.striped_dir.specs.Parts.{part_of_name}
use Rattle.tree_sound.proofs.Basics.{by_bool}
use Rattle.tree_shares.specs.Shares.{names_in}
use Rattle.tree_shares.specs.Telling.{count_from, told_names, CountsAreTold, AllNamesAreTold}
use Rattle.tree_shares.proofs.Here.{got_in, part_below, names_in_none, inserted_in, inserted_out}

abbrev Entry : Type 0
Entry = List ℕ × Fid

module _ (l : Layout) where
  -- ---- one entry more

  abbrev new_one : Names → List ℕ → ℕ
  new_one m x = cond (is_some (get m x)) 0 1

  len_one : (m : Names) (x : List ℕ) (f : Fid) → len (insert m x f) ≡ new_one m x + len m
  len_one m x f = len-insert names_total m x f ∙ by_test (is_some (get m x))
    where
      by_test : (b : Bool) → cond b (len m) (len m + 1) ≡ cond b 0 1 + len m
      by_test true = omega arith
      by_test false = omega arith

  len_here : (i : ℕ) (m : Names) (x : List ℕ) (f : Fid) → (part_of_name l x == i) ≡ true → len (names_in l i (insert m x f)) ≡ new_one m x + len (names_in l i m)
  len_here i m x f h =
      let got : get (names_in l i m) x ≡ get m x = got_in l i m x ∙ ap (λ b. cond b (get m x) None) h in
      ap (λ (k : Names). len k) (inserted_in l i x m f h) ∙ len_one (names_in l i m) x f ∙ ap (λ o. cond (is_some o) 0 1 + len (names_in l i m)) got

  len_other : (i : ℕ) (m : Names) (x : List ℕ) (f : Fid) → (part_of_name l x == i) ≡ false → len (names_in l i (insert m x f)) ≡ len (names_in l i m)
  len_other i m x f h = ap (λ (k : Names). len k) (inserted_out l i x m f h)

  apart_test : (i k : ℕ) → i ≢ k → (i == k) ≡ false
  apart_test i k ne = elim (eqb_tells i k) [
    | inl e ↦ absurd (ne e.1)
    | inr e ↦ e.0
  ]

  count_later : (m : Names) (x : List ℕ) (f : Fid) (n i : ℕ) → part_of_name l x < i → count_from l (insert m x f) i n ≡ count_from l m i n
  count_later m x f zero i h = refl
  count_later m x f (suc n) i h =
      let one = len_other i m x f (apart_test (part_of_name l x) i (λ e. absurd (omega (arith, h, e)))) in
      let rest = count_later m x f n (i + 1) (omega (arith, h)) in
      omega (arith, one, rest)

  count_more : (m : Names) (x : List ℕ) (f : Fid) (n i : ℕ) → i ≤ part_of_name l x → part_of_name l x < i + n → count_from l (insert m x f) i n ≡ new_one m x + count_from l m i n
  count_more m x f zero i low high = absurd (omega (arith, low, high))
  count_more m x f (suc n) i low high = elim (eqb_tells (part_of_name l x) i) [
    | inl e ↦ let is = e.1 in
        let one = len_here i m x f e.0 in
        let rest = count_later m x f n (i + 1) (omega (arith, is)) in
        omega (arith, one, rest)
    | inr e ↦ let ne = e.1 in
        let one = len_other i m x f e.0 in
        let rest = count_more m x f n (i + 1) (omega (arith, low, ne)) (omega (arith, high)) in
        omega (arith, one, rest)
  ]

  count_none : (n i : ℕ) → count_from l empty i n ≡ 0
  count_none zero i = refl
  count_none (suc n) i =
      let one : len (names_in l i empty) ≡ 0 = ap (λ (m : Names). len m) (names_in_none l i) ∙ len-empty name_cmp Fid in
      let rest = count_none n (i + 1) in
      omega (arith, one, rest)

  low_part : (x : List ℕ) → l.count ≢ 0 → part_of_name l x < l.count
  low_part x some = part_below l.count l.start l.generation x some

  counts_of : (es : List Entry) → l.count ≢ 0 → len (from_entries {R = name_cmp} es) ≡ count_from l (from_entries es) 0 l.count
  counts_of [] some = len-empty name_cmp Fid ∙ sym (count_none l.count 0)
  counts_of (e ∷ es) some =
      let m : Names = from_entries es in
      let low = low_part e.0 some in
      let one = len_one m e.0 e.1 in
      let rest = count_more m e.0 e.1 l.count 0 (omega arith) (omega (arith, low)) in
      let before = counts_of es some in
      omega (arith, one, rest, before)

  -- ---- what is told

  abbrev told : Names → ℕ → List Entry
  told m i = take 33 (entries (names_in l i m))

  told_short : (m : Names) (n i : ℕ) → (length (flat_map (told m) (range_with_len i n)) ≤ count_from l m i n) × (length (flat_map (told m) (range_with_len i n)) ≤ 32 → length (flat_map (told m) (range_with_len i n)) ≡ count_from l m i n)
  told_short m zero i = (omega arith, λ h. refl)
  told_short m (suc n) i =
      let rest = told_short m n (i + 1) in
      let all = length-append (told m i) (flat_map (told m) (range_with_len (i + 1) n)) in
      let some = length-take 33 (entries (names_in l i m)) in
      let is = len-entries (names_in l i m) in
      let low = rest.0 in (
        omega (arith, all, some, is, low),
        λ h. let fits : length (flat_map (told m) (range_with_len (i + 1) n)) ≤ 32 = omega (arith, all, h) in
            let same = rest.1 fits in
            omega (arith, all, some, is, same, h),
      )

  -- ---- which entries these are

  abbrev or_else : Option Fid → Option Fid → Option Fid
  or_else None o = o
  or_else (Some f) o = Some f

  found_either : (q : List ℕ) (xs ys : List Entry) → find name_cmp q (xs ++ ys) ≡ or_else (find name_cmp q xs) (find name_cmp q ys)
  found_either q [] ys = refl
  found_either q (x ∷ xs) ys = by_case (eq_by_cmp name_cmp q x.0) (found_either q xs ys)
    where
      by_case : (b : Bool) → find name_cmp q (xs ++ ys) ≡ or_else (find name_cmp q xs) (find name_cmp q ys) → cond b (Some x.1) (find name_cmp q (xs ++ ys)) ≡ or_else (cond b (Some x.1) (find name_cmp q xs)) (find name_cmp q ys)
      by_case true h = refl
      by_case false h = h

  or_none : (o : Option Fid) → or_else o None ≡ o
  or_none None = refl
  or_none (Some f) = refl

  told_all : (m : Names) (i : ℕ) → len (names_in l i m) ≤ 32 → told m i ≡ entries (names_in l i m)
  told_all m i h = let is = len-entries (names_in l i m) in take_all 33 (entries (names_in l i m)) (omega (arith, is, h))

  found_part : (m : Names) (i : ℕ) (x : List ℕ) → len (names_in l i m) ≤ 32 → find name_cmp x (told m i) ≡ cond (part_of_name l x == i) (get m x) None
  found_part m i x h = ap (λ es. find name_cmp x es) (told_all m i h) ∙ sym (get-entries (names_in l i m) x) ∙ got_in l i m x

  found_later : (m : Names) (x : List ℕ) (n i : ℕ) → count_from l m i n ≤ 32 → part_of_name l x < i → find name_cmp x (flat_map (told m) (range_with_len i n)) ≡ None
  found_later m x zero i fits h = refl
  found_later m x (suc n) i fits h =
      found_either x (told m i) (flat_map (told m) (range_with_len (i + 1) n))
      ∙ ap (λ o. or_else o (find name_cmp x (flat_map (told m) (range_with_len (i + 1) n))))
      (found_part m i x (omega (arith, fits)) ∙ ap (λ b. cond b (get m x) None) (apart_test (part_of_name l x) i (λ e. absurd (omega (arith, h, e)))))
      ∙ found_later m x n (i + 1) (omega (arith, fits)) (omega (arith, h))

  found_there : (m : Names) (x : List ℕ) (n i : ℕ) → count_from l m i n ≤ 32 → i ≤ part_of_name l x → part_of_name l x < i + n → find name_cmp x (flat_map (told m) (range_with_len i n)) ≡ get m x
  found_there m x zero i fits low high = absurd (omega (arith, low, high))
  found_there m x (suc n) i fits low high =
      let more = flat_map (told m) (range_with_len (i + 1) n) in
      found_either x (told m i) more
      ∙ elim (eqb_tells (part_of_name l x) i) [
        | inl e ↦ let is = e.1 in
            ap (λ o. or_else o (find name_cmp x more)) (found_part m i x (omega (arith, fits)) ∙ ap (λ b. cond b (get m x) None) e.0)
            ∙ ap (λ o. or_else (get m x) o) (found_later m x n (i + 1) (omega (arith, fits)) (omega (arith, is))) ∙ or_none (get m x)
        | inr e ↦ let ne = e.1 in
            ap (λ o. or_else o (find name_cmp x more)) (found_part m i x (omega (arith, fits)) ∙ ap (λ b. cond b (get m x) None) e.0)
            ∙ found_there m x n (i + 1) (omega (arith, fits)) (omega (arith, low, ne)) (omega (arith, high))
      ]

again : (names : Names) → from_entries (entries names) ≡ names
again names = same_map names_total exact_names _ _ (λ x. get-from_entries names_total (entries names) x ∙ sym (get-entries names x))

pub counts_told : CountsAreTold
counts_told l names some =
    let left : Names → Type 0 = λ m. len m ≡ count_from l m 0 l.count in
    subst left (again names) (counts_of l (entries names) some)

same_more : (a b : ℕ) → a ≤ b → (a ≤ 32 → a ≡ b) → nat_lt 32 a ≡ nat_lt 32 b
same_more a b low same = by_bool (nat_lt 32 a) (λ h. h ∙ sym (above h)) (λ h. h ∙ sym (ap (λ n. nat_lt 32 n) (sym (same (below h))) ∙ h))
  where
    below : nat_lt 32 a ≡ false → a ≤ 32
    below h = grind (arith, nat_tests)

    above : nat_lt 32 a ≡ true → nat_lt 32 b ≡ true
    above h = grind (arith, nat_tests)

pub all_names_told : AllNamesAreTold
all_names_told l names some =
    let short = told_short l names l.count 0 in
    let is = counts_told l names some in
    let T = length (told_names l names) in (
      same_more T (count_from l names 0 l.count) short.0 short.1 ∙ ap (λ n. nat_lt 32 n) (sym is),
      λ few. let fits : count_from l names 0 l.count ≤ 32 = subst (λ n. n ≤ 32) is (below (len names) few) in
          same_map names_total exact_names _ _ (λ x.
          let low = low_part l x some in
          get-from_entries names_total (told_names l names) x ∙ found_there l names x l.count 0 fits (omega arith) (omega (arith, low))),
    )
  where
    below : (n : ℕ) → nat_lt 32 n ≡ false → n ≤ 32
    below n h = grind (arith, nat_tests)
