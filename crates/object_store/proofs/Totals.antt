-- The weight of all entries of a finite map, as the map changes.
use Rattle.std.proofs.Common.{◌≡◌, ℕ, ◌+◌, Bool, true, false, cond, ◌&&◌, T, List, [], ◌∷◌, Option, Some, None, refl, sym, ap, subst, ◌∙◌, arith}
use Rattle.std.specs.declared.cmp.Ordering.{Ordering}
use Rattle.std.specs.declared.cmp.Ordering.TheVariants.{Less, Equal, Greater}
use Rattle.std.specs.Ordering.{eq_by_cmp, is_eq, is_lt}
use Rattle.std.specs.Cmp.{IsTotalOrder, eq_by_cmp_equiv}
use Rattle.std.specs.FinMap.{FinMap, entries, get, insert, remove, entries_sorted, entries-insert, get-entries, get-insert, get-remove, same_map}
use Rattle.std.specs.FinMap.Entries.{put, find, below_all, is_sorted, by_order}
use Rattle.std.proofs.lemmas.Map.Lookups.{CmpEqualImpliesEq}
use Rattle.object_store.specs.Sizes.{total}

-- the weight of what stands at a key
abbrev pub weight_at : {K X : Type 0} → (K → X → ℕ) → K → Option X → ℕ
weight_at weight k None = 0
weight_at weight k (Some x) = weight k x

first : (a b : Bool) → T (a && b) → T a
first true b p = tt
first false b p = p

second : (a b : Bool) → T (a && b) → T b
second true b p = p
second false b p = absurd p

both : (a b : Bool) → T a → T b → T (a && b)
both true b p q = q
both false b p q = p

less : (o : Ordering) → T (is_lt o) → o ≡ Less
less Less p = refl
less Equal p = absurd p
less Greater p = absurd p

module _ {K X : Type 0} (R : K → K → Ordering) (o : IsTotalOrder R) (exact : CmpEqualImpliesEq R) where
  below_less : (x y : K) (es : List (K × X)) → R x y ≡ Less → T (below_all R y es) → T (below_all R x es)
  below_less x y [] p h = tt
  below_less x y (e ∷ es) p h = both _ _ (subst (λ r. T (is_lt r)) (sym (o.trans x y e.0 p (less _ (first _ _ h)))) tt) (below_less x y es p (second _ _ h))

  missed : (q : K) (es : List (K × X)) → T (below_all R q es) → find R q es ≡ None
  missed q [] h = refl
  missed q (e ∷ es) h = ap (λ r. cond (is_eq r) (Some e.1) (find R q es)) (less _ (first _ _ h)) ∙ missed q es (second _ _ h)

  put_total : (w : K → X → ℕ) (k : K) (v : X) (es : List (K × X)) → T (is_sorted R es) → total w (put R k v es) + weight_at w k (find R k es) ≡ total w es + w k v
  put_total w k v [] h = omega arith
  put_total w k v (e ∷ es) h =
      elim (R k e.0) as (λ r. R k e.0 ≡ r → total w (by_order r ((k, v) ∷ e ∷ es) ((e.0, v) ∷ es) (e ∷ put R k v es)) + weight_at w k (cond (is_eq r) (Some e.1) (find R k es)) ≡ total w (e ∷ es) + w k v) [
        | Less ↦ λ p.
            let none = ap (weight_at w k) (missed k es (below_less k e.0 es p (first _ _ h))) in
            omega (arith, none)
        | Equal ↦ λ p.
            let same = exact k e.0 p in
            let a = ap (λ x. w x v) same in
            let b = ap (λ x. w x e.1) same in
            omega (arith, a, b)
        | Greater ↦ λ p. let rest = put_total w k v es (second _ _ h) in omega (arith, rest)
      ] refl

  -- an entry more, or another value
  pub total-insert : (w : K → X → ℕ) (m : FinMap R X) (k : K) (v : X) → total w (entries (insert m k v)) + weight_at w k (get m k) ≡ total w (entries m) + w k v
  total-insert w m k v =
      ap (λ es. total w es + weight_at w k (get m k)) (entries-insert o m k v) ∙ ap (λ x. total w (put R k v (entries m)) + weight_at w k x) (get-entries m k)
      ∙ put_total w k v (entries m) (entries_sorted m)

  pub again : (m : FinMap R X) (k : K) (v : X) → insert (remove m k) k v ≡ insert m k v
  again m k v = same_map o exact _ _ (λ q. get-insert o (remove m k) k v q ∙ ap (cond (eq_by_cmp R q k) (Some v)) (get-remove o m k q) ∙ twice (eq_by_cmp R q k) (Some v) (get m q) ∙ sym (get-insert o m k v q))
    where
      twice : (b : Bool) (x y : Option X) → cond b x (cond b None y) ≡ cond b x y
      twice true x y = refl
      twice false x y = refl

  gone : (m : FinMap R X) (k : K) → get (remove m k) k ≡ None
  gone m k = get-remove o m k k ∙ ap (λ b. cond b None (get m k)) ((eq_by_cmp_equiv o).refl k)

  -- nothing to remove
  pub absent : (m : FinMap R X) (k : K) → get m k ≡ None → remove m k ≡ m
  absent m k none = same_map o exact _ _ (λ q. get-remove o m k q ∙ elim (R q k) as (λ r. R q k ≡ r → cond (is_eq r) None (get m q) ≡ get m q) [
    | Less ↦ λ p. refl
    | Equal ↦ λ p. sym (ap (get m) (exact q k p) ∙ none)
    | Greater ↦ λ p. refl
  ] refl)

  -- an entry less
  pub total-remove : (w : K → X → ℕ) (m : FinMap R X) (k : K) → total w (entries (remove m k)) + weight_at w k (get m k) ≡ total w (entries m)
  total-remove w m k = elim (get m k) as (λ x. get m k ≡ x → total w (entries (remove m k)) + weight_at w k x ≡ total w (entries m)) [
    | None ↦ λ is. let e = ap (λ n. total w (entries n)) (absent m k is) in omega (arith, e)
    | Some v ↦ λ is.
        let a = total-insert w (remove m k) k v in
        let b = total-insert w m k v in
        let c = ap (weight_at w k) (gone m k) in
        let d = ap (weight_at w k) is in
        let e = ap (λ n. total w (entries n)) (again m k v) in
        omega (arith, a, b, c, d, e)
  ] refl
