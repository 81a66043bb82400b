-- Entries in the order of their keys: what stands behind one of them.
use Rattle.std.proofs.Common.{◌≡◌, Bool, true, false, cond, ◌&&◌, T, List, [], ◌∷◌, ◌++◌, Option, Some, None, refl, sym, ap, subst, ◌∙◌, append-nil}
use Rattle.std.specs.declared.cmp.Ordering.{Ordering}
use Rattle.std.specs.declared.cmp.Ordering.TheVariants.{Less, Equal, Greater}
use Rattle.std.specs.Ordering.{is_lt, is_eq, eq_by_cmp, ordering_reverse}
use Rattle.std.specs.Cmp.{IsTotalOrder, eq_by_cmp_equiv, tied_itself}
use Rattle.std.specs.List.{AllByRecursion}
use Rattle.std.specs.FinMap.{FinMap, empty, get, insert, entries, from_entries, find, is_sorted, entries_sorted, get-entries, get-from_entries, from_entries_push, same_map}
use Rattle.std.specs.FinMap.Entries.{below_all}
use Rattle.std.proofs.lemmas.Map.Lookups.{CmpEqualImpliesEq}
use Rattle.std.proofs.lemmas.Map.Views.{tells_apart}
use Rattle.tree_sound.proofs.Basics.{by_bool, some_is, none_is}
use Rattle.object_store.specs.Following.{behind}

split : (a b : Bool) → T (a && b) → T a × T b
split true b h = (tt, h)
split false b h = absurd h

both : (a b : Bool) → T a → T b → T (a && b)
both true b x y = y
both false b x y = absurd x

is_less : (o : Ordering) → T (is_lt o) → o ≡ Less
is_less Less h = refl
is_less Equal h = absurd h
is_less Greater h = absurd h

-- what stands behind a front of a list
abbrev pub Ends : {A : Type 0} → List A → List A → Type 0
Ends {A} all rest = (front : List A) × (all ≡ front ++ rest)

pub ends_later : {A : Type 0} (all front rest : List A) (e : A) → all ≡ front ++ e ∷ rest → all ≡ (front ++ e ∷ []) ++ rest
ends_later {A} all front rest e h = h ∙ moved front
  where
    moved : (xs : List A) → xs ++ e ∷ rest ≡ (xs ++ e ∷ []) ++ rest
    moved [] = refl
    moved (x ∷ xs) = ap (λ ys. x ∷ ys) (moved xs)

turned : {K : Type 0} {R : K → K → Ordering} → IsTotalOrder R → (a b : K) → R a b ≡ Less → R b a ≡ Greater
turned o a b h = o.antisymm b a ∙ ap ordering_reverse h

module _ {K X : Type 0} {R : K → K → Ordering} (o : IsTotalOrder R) where
  -- ---- each entry comes after none

  pub all_behind : (es : List (K × X)) → behind R None es ≡ es
  all_behind [] = refl
  all_behind (e ∷ es) = ap (λ xs. e ∷ xs) (all_behind es)

  -- ---- behind an entry's key

  keep_all : (k : K) (es : List (K × X)) → T (below_all R k es) → behind R (Some k) es ≡ es
  keep_all k [] h = refl
  keep_all k (e ∷ es) h =
      let parts = split (is_lt (R k e.0)) (below_all R k es) h in
      ap (λ r. cond (is_lt r) (e ∷ behind R (Some k) es) (behind R (Some k) es)) (is_less (R k e.0) parts.0) ∙ ap (λ xs. e ∷ xs) (keep_all k es parts.1)

  -- an entry behind others is above the first
  above_first : (k : K) (front : List (K × X)) (e : K × X) (rest : List (K × X)) → T (below_all R k (front ++ e ∷ rest)) → R k e.0 ≡ Less
  above_first k [] e rest h = is_less (R k e.0) (split (is_lt (R k e.0)) (below_all R k rest) h).0
  above_first k (f ∷ front) e rest h = above_first k front e rest (split (is_lt (R k f.0)) (below_all R k (front ++ e ∷ rest)) h).1

  behind_in : (front : List (K × X)) (e : K × X) (rest : List (K × X)) → T (is_sorted R (front ++ e ∷ rest)) → behind R (Some e.0) (front ++ e ∷ rest) ≡ rest
  behind_in [] e rest h =
      let parts = split (below_all R e.0 rest) (is_sorted R rest) h in
      ap (λ r. cond (is_lt r) (e ∷ behind R (Some e.0) rest) (behind R (Some e.0) rest)) (tied_itself o e.0) ∙ keep_all e.0 rest parts.0
  behind_in (f ∷ front) e rest h =
      let parts = split (below_all R f.0 (front ++ e ∷ rest)) (is_sorted R (front ++ e ∷ rest)) h in
      let all = behind R (Some e.0) (front ++ e ∷ rest) in
      ap (λ r. cond (is_lt r) (f ∷ all) all) (turned o f.0 e.0 (above_first f.0 front e rest parts.0)) ∙ behind_in front e rest parts.1

  found_in : (front : List (K × X)) (e : K × X) (rest : List (K × X)) → T (is_sorted R (front ++ e ∷ rest)) → find R e.0 (front ++ e ∷ rest) ≡ Some e.1
  found_in [] e rest h = ap (λ b. cond b (Some e.1) (find R e.0 rest)) ((eq_by_cmp_equiv o).refl e.0)
  found_in (f ∷ front) e rest h =
      let parts = split (below_all R f.0 (front ++ e ∷ rest)) (is_sorted R (front ++ e ∷ rest)) h in
      ap (λ r. cond (is_eq r) (Some f.1) (find R e.0 (front ++ e ∷ rest))) (turned o f.0 e.0 (above_first f.0 front e rest parts.0)) ∙ found_in front e rest parts.1

  module _ (m : FinMap R X) (front : List (K × X)) (e : K × X) (rest : List (K × X)) (h : entries m ≡ front ++ e ∷ rest) where
    sorted_here : T (is_sorted R (front ++ e ∷ rest))
    sorted_here = subst (λ es. T (is_sorted R es)) h (entries_sorted m)

    pub behind_entry : behind R (Some e.0) (entries m) ≡ rest
    behind_entry = ap (λ es. behind R (Some e.0) es) h ∙ behind_in front e rest sorted_here

    pub got_entry : get m e.0 ≡ Some e.1
    got_entry = get-entries m e.0 ∙ ap (λ es. find R e.0 es) h ∙ found_in front e rest sorted_here

  -- ---- what stands behind any key ends the list

  ends_in : (a : K) (es : List (K × X)) → T (is_sorted R es) → Ends es (behind R (Some a) es)
  ends_in a [] h = ([], refl)
  ends_in a (e ∷ es) h =
      let parts = split (below_all R e.0 es) (is_sorted R es) h in
      by_order (R a e.0) refl parts.0 (ends_in a es parts.1)
    where
      higher : R a e.0 ≡ Less → (xs : List (K × X)) → T (below_all R e.0 xs) → T (below_all R a xs)
      higher l [] h = tt
      higher l (x ∷ xs) h =
          let parts = split (is_lt (R e.0 x.0)) (below_all R e.0 xs) h in
          both (is_lt (R a x.0)) (below_all R a xs) (subst (λ r. T (is_lt r)) (sym (o.trans a e.0 x.0 l (is_less (R e.0 x.0) parts.0))) tt) (higher l xs parts.1)

      passed : Ends es (behind R (Some a) es) → Ends (e ∷ es) (behind R (Some a) es)
      passed d = (e ∷ d.0, ap (λ xs. e ∷ xs) d.1)

      by_order : (r : Ordering) → R a e.0 ≡ r → T (below_all R e.0 es) → Ends es (behind R (Some a) es) → Ends (e ∷ es) (cond (is_lt r) (e ∷ behind R (Some a) es) (behind R (Some a) es))
      by_order Less is low d = ([], ap (λ xs. e ∷ xs) (sym (keep_all a es (higher is es low))))
      by_order Equal is low d = passed d
      by_order Greater is low d = passed d

  pub ends_behind : (m : FinMap R X) (after : Option K) → Ends (entries m) (behind R after (entries m))
  ends_behind m None = ([], sym (all_behind (entries m)))
  ends_behind m (Some a) = ends_in a (entries m) (entries_sorted m)

  -- ---- what is found in a list in order, and what isn't

  -- no entry has the key
  abbrev pub Without : K → List (K × X) → Type 0
  Without k es = AllByRecursion (λ e. eq_by_cmp R k e.0 ≡ false) es

  above_without : (k : K) (es : List (K × X)) → T (below_all R k es) → Without k es
  above_without k [] h = tt
  above_without k (e ∷ es) h =
      let parts = split (is_lt (R k e.0)) (below_all R k es) h in
      (ap is_eq (is_less (R k e.0) parts.0), above_without k es parts.1)

  none_in : (k : K) (es : List (K × X)) → find R k es ≡ None → Without k es
  none_in k [] h = tt
  none_in k (e ∷ es) h =
      by_bool (eq_by_cmp R k e.0)
      (λ y. absurd (none_is (sym h ∙ ap (λ b. cond b (Some e.1) (find R k es)) y)))
      (λ n. (n, none_in k es (sym (ap (λ b. cond b (Some e.1) (find R k es)) n) ∙ h)))

  pub none_there : (m : FinMap R X) (k : K) → get m k ≡ None → Without k (entries m)
  none_there m k h = none_in k (entries m) (sym (get-entries m k) ∙ h)

  front_none : (front : List (K × X)) (e : K × X) (rest : List (K × X)) → T (is_sorted R (front ++ e ∷ rest)) → find R e.0 front ≡ None
  front_none [] e rest h = refl
  front_none (f ∷ front) e rest h =
      let parts = split (below_all R f.0 (front ++ e ∷ rest)) (is_sorted R (front ++ e ∷ rest)) h in
      ap (λ r. cond (is_eq r) (Some f.1) (find R e.0 front)) (turned o f.0 e.0 (above_first f.0 front e rest parts.0)) ∙ front_none front e rest parts.1

  module _ (exact : CmpEqualImpliesEq R) where
    -- where an entry stands
    pub record Found (es : List (K × X)) (k : K) (v : X) : Type 0 where
      pub before : List (K × X)
      pub rest : List (K × X)
      pub is : es ≡ before ++ (k, v) ∷ rest
      pub low : Without k before
      pub high : Without k rest

    found_where : (es : List (K × X)) → T (is_sorted R es) → (k : K) (v : X) → find R k es ≡ Some v → Found es k v
    found_where [] s k v h = absurd (none_is h)
    found_where (e ∷ es) s k v h =
        let parts = split (below_all R e.0 es) (is_sorted R es) s in
        by_bool (eq_by_cmp R k e.0)
        (λ y.
        let at : k ≡ e.0 = tells_apart exact k e.0 y in
        let value : e.1 ≡ v = some_is (sym (ap (λ b. cond b (Some e.1) (find R k es)) y) ∙ h) in
        record {
          before = [];
          rest = es;
          is = (λ i. (sym at i, value i) ∷ es);
          low = tt;
          high = subst (λ q. Without q es) (sym at) (above_without e.0 es parts.0);
        })
        (λ n.
        let r = found_where es parts.1 k v (sym (ap (λ b. cond b (Some e.1) (find R k es)) n) ∙ h) in
        record {
          before = e ∷ r.before;
          rest = r.rest;
          is = ap (λ xs. e ∷ xs) r.is;
          low = (n, r.low);
          high = r.high;
        })

    pub found_there : (m : FinMap R X) (k : K) (v : X) → get m k ≡ Some v → Found (entries m) k v
    found_there m k v h = found_where (entries m) (entries_sorted m) k v (sym (get-entries m k) ∙ h)

    -- to put the entries of a map into an empty one, one after another, makes it again
    abbrev pub put_all : FinMap R X → List (K × X) → FinMap R X
    put_all m [] = m
    put_all m (e ∷ es) = put_all (insert m e.0 e.1) es

    put_behind : (front es : List (K × X)) → T (is_sorted R (front ++ es)) → put_all (from_entries front) es ≡ from_entries (front ++ es)
    put_behind front [] s = ap (λ xs. from_entries xs) (sym (append-nil front))
    put_behind front (e ∷ es) s =
        ap (λ m. put_all m es) (sym (from_entries_push o exact front e.0 e.1 (front_none front e es s)))
        ∙ put_behind (front ++ e ∷ []) es (subst (λ xs. T (is_sorted R xs)) (ends_later (front ++ e ∷ es) front es e refl) s)
        ∙ ap (λ xs. from_entries xs) (sym (ends_later (front ++ e ∷ es) front es e refl))

    pub put_again : (m : FinMap R X) → put_all empty (entries m) ≡ m
    put_again m = put_behind [] (entries m) (entries_sorted m) ∙ same_map o exact _ _ (λ q. get-from_entries o (entries m) q ∙ sym (get-entries m q))
