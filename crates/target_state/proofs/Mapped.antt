-- What is so of each entry of a finite map, as the map changes.
use Rattle.std.proofs.Common.{◌≡◌, ℕ, ◌≤◌, Bool, true, false, cond, ◌&&◌, T, List, [], ◌∷◌, length, Option, Some, None, IfSome, refl, sym, ap, subst, ◌∙◌, arith}
use Rattle.std.specs.List.{AllByRecursion}
use Rattle.std.specs.declared.cmp.Ordering.{Ordering}
use Rattle.std.specs.declared.cmp.Ordering.TheVariants.{Less, Equal, Greater}
use Rattle.std.specs.Ordering.{eq_by_cmp, is_eq, is_lt}
use Rattle.std.specs.Cmp.{IsTotalOrder, eq_by_cmp_equiv}
use Rattle.std.specs.FinMap.{FinMap, empty, entries, get, insert, remove, entries_sorted, get-entries, get-empty, get-insert, get-remove, find, is_sorted}
use Rattle.std.specs.FinMap.Entries.{below_all}
use Rattle.std.proofs.lemmas.Map.Lookups.{CmpEqualImpliesEq}
use Rattle.object_store.specs.Sizes.{total}

first : (a b : Bool) → T (a && b) → T a
first true b p = tt
first false b p = p

second : (a b : Bool) → T (a && b) → T b
second true b p = p
second false b p = absurd p

less : (r : Ordering) → T (is_lt r) → r ≡ Less
less Less p = refl
less Equal p = absurd p
less Greater p = absurd p

equal : (r : Ordering) → is_eq r ≡ true → r ≡ Equal
equal Less p = absurd cc
equal Equal p = refl
equal Greater p = absurd cc

-- ---- weights

abbrev pub AreLight : {K X : Type 0} → (K → X → ℕ) → ℕ → List (K × X) → Type 0
AreLight {K} {X} weight most es = AllByRecursion (λ (e : K × X). weight e.0 e.1 ≤ most) es

-- none weighs more than all
pub all_light : {K X : Type 0} (weight : K → X → ℕ) (most : ℕ) (es : List (K × X)) → total weight es ≤ most → AreLight weight most es
all_light weight most [] low = tt
all_light weight most (e ∷ es) low = (omega (arith, low), all_light weight most es (omega (arith, low)))

-- entries that weigh something are no more than their weight
pub all_few : {K X : Type 0} (weight : K → X → ℕ) → ((k : K) (x : X) → 1 ≤ weight k x) → (es : List (K × X)) → length es ≤ total weight es
all_few weight some [] = omega arith
all_few weight some (e ∷ es) = let a = some e.0 e.1 in let b = all_few weight some es in omega (arith, a, b)

module _ {K X : Type 0} (R : K → K → Ordering) (o : IsTotalOrder R) (exact : CmpEqualImpliesEq R) (P : K × X → Type 0) where
  -- of each that is found
  abbrev pub Each : FinMap R X → Type 0
  Each m = (k : K) → IfSome (get m k) (λ x. P (k, x))

  pub each_of_none : Each empty
  each_of_none = λ k. subst (λ (x : Option X). IfSome x (λ v. P (k, v))) (sym (get-empty {X = X} R k)) tt

  put_if : (k q : K) (v : X) (x : Option X) (b : Bool) → eq_by_cmp R q k ≡ b → P (k, v) → IfSome x (λ y. P (q, y)) → IfSome (cond b (Some v) x) (λ y. P (q, y))
  put_if k q v x true is one all = subst (λ (j : K). P (j, v)) (sym (exact q k (equal (R q k) is))) one
  put_if k q v x false is one all = all

  pub each_put : (m : FinMap R X) (k : K) (v : X) → Each m → P (k, v) → Each (insert m k v)
  each_put m k v all one = λ q. subst (λ (x : Option X). IfSome x (λ y. P (q, y))) (sym (get-insert o m k v q)) (put_if k q v (get m q) (eq_by_cmp R q k) refl one (all q))

  taken_if : (q : K) (x : Option X) (b : Bool) → IfSome x (λ y. P (q, y)) → IfSome (cond b None x) (λ y. P (q, y))
  taken_if q x true all = tt
  taken_if q x false all = all

  pub each_taken : (m : FinMap R X) (k : K) → Each m → Each (remove m k)
  each_taken m k all = λ q. subst (λ (x : Option X). IfSome x (λ y. P (q, y))) (sym (get-remove o m k q)) (taken_if q (get m q) (eq_by_cmp R q k) (all q))

  -- ---- and of each in the list

  found_if : (e : K × X) (k : K) (x : Option X) (b : Bool) → eq_by_cmp R k e.0 ≡ b → P e → IfSome x (λ y. P (k, y)) → IfSome (cond b (Some e.1) x) (λ y. P (k, y))
  found_if e k x true is one all = subst (λ (j : K). P (j, e.1)) (sym (exact k e.0 (equal (R k e.0) is))) one
  found_if e k x false is one all = all

  found_in : (es : List (K × X)) (k : K) → AllByRecursion P es → IfSome (find R k es) (λ y. P (k, y))
  found_in [] k all = tt
  found_in (e ∷ es) k all = found_if e k (find R k es) (eq_by_cmp R k e.0) refl all.0 (found_in es k all.1)

  pub each_of : (m : FinMap R X) → AllByRecursion P (entries m) → Each m
  each_of m all = λ k. subst (λ (x : Option X). IfSome x (λ y. P (k, y))) (sym (get-entries m k)) (found_in (entries m) k all)

  not_below : (q : K) (es : List (K × X)) → T (below_all R q es) → find R q es ≡ None
  not_below q [] h = refl
  not_below q (e ∷ es) h = ap (λ (r : Ordering). cond (is_eq r) (Some e.1) (find R q es)) (less _ (first _ _ h)) ∙ not_below q es (second _ _ h)

  later_if : (e : K × X) (es : List (K × X)) (k : K) (b : Bool) → eq_by_cmp R k e.0 ≡ b → T (below_all R e.0 es) → IfSome (cond b (Some e.1) (find R k es)) (λ y. P (k, y)) → IfSome (find R k es) (λ y. P (k, y))
  later_if e es k true is low here =
      let same = exact k e.0 (equal (R k e.0) is) in
      subst (λ (j : K). IfSome (find R j es) (λ y. P (j, y))) (sym same) (subst (λ (x : Option X). IfSome x (λ y. P (e.0, y))) (sym (not_below e.0 es low)) tt)
  later_if e es k false is low here = here

  all_found : (es : List (K × X)) → T (is_sorted R es) → ((k : K) → IfSome (find R k es) (λ y. P (k, y))) → AllByRecursion P es
  all_found [] sorted each = tt
  all_found (e ∷ es) sorted each =
      let low = first (below_all R e.0 es) (is_sorted R es) sorted in
      let rest = second (below_all R e.0 es) (is_sorted R es) sorted in
      let here : P (e.0, e.1) = subst (λ (b : Bool). IfSome (cond b (Some e.1) (find R e.0 es)) (λ y. P (e.0, y))) ((eq_by_cmp_equiv o).refl e.0) (each e.0) in
      (here, all_found es rest (λ k. later_if e es k (eq_by_cmp R k e.0) refl low (each k)))

  pub all_of : (m : FinMap R X) → Each m → AllByRecursion P (entries m)
  all_of m each = all_found (entries m) (entries_sorted m) (λ k. subst (λ (x : Option X). IfSome x (λ y. P (k, y))) (get-entries m k) (each k))
