-- Items by rising keys that are read one after another make the map that has just these entries.
use Rattle.std.proofs.Common.{◌≡◌, ℕ, zero, suc, Bool, true, false, ◌&&◌, T, List, [], ◌∷◌, ◌++◌, length, Option, Some, None, Result, Ok, refl, sym, ap, subst, ◌∙◌, append_assoc, arith}
use Rattle.std.specs.List.{flat_map, AllByRecursion}
use Rattle.std.specs.declared.cmp.Ordering.{Ordering}
use Rattle.std.specs.declared.cmp.Ordering.TheVariants.{Less, Equal, Greater}
use Rattle.std.specs.Ordering.{is_lt, ordering_reverse}
use Rattle.std.specs.Cmp.{IsTotalOrder}
use Rattle.std.specs.FinMap.{FinMap, empty, entries, insert, len, len-empty, len-entries, entries_sorted, entries-insert, same_entries_map}
use Rattle.std.specs.FinMap.Entries.{put, is_sorted, below_all, by_order}
use Rattle.std.proofs.lemmas.List.{append-nil}
use Rattle.byte_grammar.specs.Numbers.{IsBytes}
use Rattle.object_store.specs.declared.fault.ImageFault.{ImageFault}
use Rattle.object_store.specs.ImageReading.{rises, items_at}
use Rattle.object_store.proofs.ImageFields.{bind_ok, ok_is, Takes, Takes-then}

no_entry : {K X : Type 0} (es : List (K × X)) → length es ≡ 0 → es ≡ []
no_entry [] e = refl
no_entry (x ∷ es) e = absurd (omega (arith, e))

pub entries_of_none : {K : Type 0} (R : K → K → Ordering) (X : Type 0) → entries (empty {X = X} {R = R}) ≡ []
entries_of_none R X = no_entry _ (sym (len-entries (empty {X = X} {R = R})) ∙ len-empty R X)

less : (o : Ordering) → is_lt o ≡ true → o ≡ Less
less Less e = refl
less Equal e = absurd cc
less Greater e = absurd cc

T_is : (b : Bool) → T b → b ≡ true
T_is true t = refl
T_is false t = absurd t

first : (a b : Bool) → T (a && b) → T a
first true b p = tt
first false b p = absurd p

second : (a b : Bool) → T (a && b) → T b
second true b p = p
second false b p = absurd p

-- whatever may stand behind the last key stands behind all
abbrev pub Ends : {K X : Type 0} → (K → K → Ordering) → Option K → List (K × X) → Type 0
Ends {K} {X} R last es = (k : K) → rises R last k ≡ true → AllByRecursion (λ (e : K × X). R e.0 k ≡ Less) es

-- the first key may stand behind the last one
abbrev pub Begins : {K X : Type 0} → (K → K → Ordering) → Option K → List (K × X) → Type 0
Begins R last [] = Unit {0}
Begins R last (e ∷ es) = rises R last e.0 ≡ true

all_end : {Y : Type 0} (P : Y → Type 0) (xs : List Y) (y : Y) → AllByRecursion P xs → P y → AllByRecursion P (xs ++ (y ∷ []))
all_end P [] y h p = (p, tt)
all_end P (x ∷ xs) y h p = (h.0, all_end P xs y h.1 p)

ends_none : {K : Type 0} (R : K → K → Ordering) (X : Type 0) → Ends R None (entries (empty {X = X} {R = R}))
ends_none {K} R X = λ q above. subst (AllByRecursion (λ (e : K × X). R e.0 q ≡ Less)) (sym (entries_of_none R X)) tt

module _ {K X : Type 0} (R : K → K → Ordering) (o : IsTotalOrder R) where
  put_end : (k : K) (v : X) (es : List (K × X)) → AllByRecursion (λ (e : K × X). R e.0 k ≡ Less) es → put R k v es ≡ es ++ ((k, v) ∷ [])
  put_end k v [] h = refl
  put_end k v (e ∷ es) h =
      let behind : R k e.0 ≡ Greater = o.antisymm k e.0 ∙ ap ordering_reverse h.0 in
      ap (λ r. by_order r ((k, v) ∷ e ∷ es) ((e.0, v) ∷ es) (e ∷ put R k v es)) behind ∙ ap (λ (l : List (K × X)). e ∷ l) (put_end k v es h.1)

  further : (k q : K) (es : List (K × X)) → R k q ≡ Less → AllByRecursion (λ (e : K × X). R e.0 k ≡ Less) es → AllByRecursion (λ (e : K × X). R e.0 q ≡ Less) es
  further k q [] p h = tt
  further k q (e ∷ es) p h = (o.trans e.0 k q h.0 p, further k q es p h.1)

  pub pushed : (last : Option K) (m : FinMap R X) (k : K) (v : X) → Ends R last (entries m) → rises R last k ≡ true → entries (insert m k v) ≡ entries m ++ ((k, v) ∷ [])
  pushed last m k v ends rise = entries-insert o m k v ∙ put_end k v (entries m) (ends k rise)

  pub ends_so : (last : Option K) (m : FinMap R X) (k : K) (v : X) → Ends R last (entries m) → rises R last k ≡ true → Ends R (Some k) (entries (insert m k v))
  ends_so last m k v ends rise = λ q above.
      let p = less (R k q) above in
      subst (AllByRecursion (λ (e : K × X). R e.0 q ≡ Less)) (sym (pushed last m k v ends rise)) (all_end (λ (e : K × X). R e.0 q ≡ Less) (entries m) (k, v) (further k q (entries m) p (ends k rise)) p)

  begins_sorted : (e : K × X) (es : List (K × X)) → T (is_sorted R (e ∷ es)) → Begins R (Some e.0) es
  begins_sorted e [] h = tt
  begins_sorted e (f ∷ es) h = T_is _ (first _ _ (first _ _ h))

  pub begins_none : (es : List (K × X)) → Begins R None es
  begins_none [] = tt
  begins_none (e ∷ es) = refl

  module _ (item : Option K → List ℕ → Result ((K × X) × List ℕ) ImageFault) (text : K × X → List ℕ) (Fits : K × X → Type 0) where
    pub items_take : ((last : Option K) (bytes : List ℕ) (e : K × X) (rest : List ℕ) → IsBytes bytes → item last bytes ≡ Ok (e, rest) → Takes bytes (text e) rest × Fits e × (rises R last e.0 ≡ true))
        → (n : ℕ) (last : Option K) (m : FinMap R X) (bytes : List ℕ) (made : FinMap R X) (rest : List ℕ) → IsBytes bytes → Ends R last (entries m) → items_at item n last m bytes ≡ Ok (made, rest)
        → (es : List (K × X)) × (length es ≡ n) × AllByRecursion Fits es × Takes bytes (flat_map text es) rest × (entries made ≡ entries m ++ es)
    unfolding items_at
    items_take one zero last m bytes made rest fits ends e =
        let is = ok_is (m, bytes) (made, rest) e in (
          [],
          refl,
          tt,
          record { parts = ap (λ (p : FinMap R X × List ℕ). p.1) is; fits = subst IsBytes (ap (λ (p : FinMap R X × List ℕ). p.1) is) fits },
          sym (ap (λ (p : FinMap R X × List ℕ). entries p.0) is) ∙ sym (append-nil (entries m)),
        )
    items_take one (suc n) last m bytes made rest fits ends e =
        let a = bind_ok (item last bytes) _ _ e in
        let t = one last bytes a.0.0 a.0.1 fits a.1 in
        let more = items_take one n (Some a.0.0.0) (insert m a.0.0.0 a.0.0.1) a.0.1 made rest t.0.fits (ends_so last m a.0.0.0 a.0.0.1 ends t.2) a.2 in
        let is = more.4 ∙ ap (λ (l : List (K × X)). l ++ more.0) (pushed last m a.0.0.0 a.0.0.1 ends t.2) ∙ append_assoc (entries m) (a.0.0 ∷ []) more.0 in
        (a.0.0 ∷ more.0, ap suc more.1, (t.1, more.2), Takes-then t.0 more.3, is)

    pub items_again : ((last : Option K) (e : K × X) (rest : List ℕ) → Fits e → rises R last e.0 ≡ true → item last (text e ++ rest) ≡ Ok (e, rest))
        → (es : List (K × X)) (last : Option K) (m : FinMap R X) (rest : List ℕ) → AllByRecursion Fits es → T (is_sorted R es) → Begins R last es → Ends R last (entries m)
        → (made : FinMap R X) × (items_at item (length es) last m (flat_map text es ++ rest) ≡ Ok (made, rest)) × (entries made ≡ entries m ++ es)
    unfolding items_at
    items_again one [] last m rest fit sorted begins ends = (m, refl, sym (append-nil (entries m)))
    items_again one (e ∷ es) last m rest fit sorted begins ends =
        let more = items_again one es (Some e.0) (insert m e.0 e.1) rest fit.1 (second (below_all R e.0 es) (is_sorted R es) sorted) (begins_sorted e es sorted) (ends_so last m e.0 e.1 ends begins) in
        let read : items_at item (length (e ∷ es)) last m (flat_map text (e ∷ es) ++ rest) ≡ Ok (more.0, rest) = rw (append_assoc (text e) (flat_map text es) rest, one last e (flat_map text es ++ rest) fit.0 begins) more.1 in
        let is = more.2 ∙ ap (λ (l : List (K × X)). l ++ es) (pushed last m e.0 e.1 ends begins) ∙ append_assoc (entries m) (e ∷ []) es in
        (more.0, read, is)

    -- a map is read from the text of its entries
    pub map_again : ((last : Option K) (e : K × X) (rest : List ℕ) → Fits e → rises R last e.0 ≡ true → item last (text e ++ rest) ≡ Ok (e, rest))
        → (m : FinMap R X) (rest : List ℕ) → AllByRecursion Fits (entries m) → items_at item (len m) None empty (flat_map text (entries m) ++ rest) ≡ Ok (m, rest)
    map_again one m rest fit =
        let read = items_again one (entries m) None empty rest fit (entries_sorted m) (begins_none (entries m)) (ends_none R X) in
        let same : read.0 ≡ m = same_entries_map read.0 m (read.2 ∙ ap (λ (l : List (K × X)). l ++ entries m) (entries_of_none R X)) in
        ap (λ (n : ℕ). items_at item n None empty (flat_map text (entries m) ++ rest)) (len-entries m) ∙ read.1 ∙ ap (λ (n : FinMap R X). Ok (n, rest)) same

    -- what is read as a map is the text of its entries
    pub map_takes : ((last : Option K) (bytes : List ℕ) (e : K × X) (rest : List ℕ) → IsBytes bytes → item last bytes ≡ Ok (e, rest) → Takes bytes (text e) rest × Fits e × (rises R last e.0 ≡ true))
        → (n : ℕ) (bytes : List ℕ) (m : FinMap R X) (rest : List ℕ) → IsBytes bytes → items_at item n None empty bytes ≡ Ok (m, rest)
        → (len m ≡ n) × AllByRecursion Fits (entries m) × Takes bytes (flat_map text (entries m)) rest
    map_takes one n bytes m rest fits e =
        let read = items_take one n None empty bytes m rest fits (ends_none R X) e in
        let same : entries m ≡ read.0 = read.4 ∙ ap (λ (l : List (K × X)). l ++ read.0) (entries_of_none R X) in
        (len-entries m ∙ ap length same ∙ read.1, subst (AllByRecursion Fits) (sym same) read.2, subst (λ (es : List (K × X)). Takes bytes (flat_map text es) rest) (sym same) read.3)
