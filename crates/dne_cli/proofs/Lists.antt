-- Lists of requests, of flags and of items.
use Rattle.std.proofs.Common.{◌≡◌, ◌≢◌, ◌==◌, ◌||◌, ◌<◌, ◌≤◌, ℕ, zero, suc, max, ◌-◌, Bool, true, false, cond, List, [], ◌∷◌, ◌++◌, length, get_or, set, ◌⊎◌, inl, inr, refl, sym, ap, ◌∙◌, subst, arith}
use Rattle.std.specs.List.{AllByRecursion}
use Rattle.std.proofs.lemmas.Bool.Decides.{eqb_tells}
use Rattle.tree_model.specs.History.{Item}
use Rattle.tree_model.specs.declared.op.Request.{Request}
use Rattle.scenario_text.specs.Machine.{Among, is_sent}
use Rattle.dne_cli.specs.Reached.{AreDistinct, greatest}

pub all_push : {X : Type 0} (P : X → Type 0) (xs : List X) (x : X) → AllByRecursion P xs → P x → AllByRecursion P (xs ++ x ∷ [])
all_push P [] x h p = (p, tt)
all_push P (y ∷ xs) x h p = (h.0, all_push P xs x h.1 p)

pub all_map : {X : Type 0} (P Q : X → Type 0) (xs : List X) → ((x : X) → P x → Q x) → AllByRecursion P xs → AllByRecursion Q xs
all_map P Q [] f h = tt
all_map P Q (x ∷ xs) f h = (f x h.0, all_map P Q xs f h.1)

pub all_append : {X : Type 0} (P : X → Type 0) (xs ys : List X) → AllByRecursion P xs → AllByRecursion P ys → AllByRecursion P (xs ++ ys)
all_append P [] ys h k = k
all_append P (x ∷ xs) ys h k = (h.0, all_append P xs ys h.1 k)

pub all_among : {X : Type 0} (P : X → Type 0) (xs : List X) (x : X) → AllByRecursion P xs → Among xs x → P x
all_among P [] x h m = absurd m
all_among P (y ∷ xs) x h (inl e) = subst P e h.0
all_among P (y ∷ xs) x h (inr m) = all_among P xs x h.1 m

pub among_front : {X : Type 0} (xs ys : List X) (x : X) → Among xs x → Among (xs ++ ys) x
among_front [] ys x m = absurd m
among_front (y ∷ xs) ys x (inl e) = inl e
among_front (y ∷ xs) ys x (inr m) = inr (among_front xs ys x m)

pub among_last : {X : Type 0} (xs : List X) (x : X) → Among (xs ++ x ∷ []) x
among_last [] x = inl refl
among_last (y ∷ xs) x = inr (among_last xs x)

-- every member is among the list
pub all_here : {X : Type 0} (xs : List X) → AllByRecursion (λ x. Among xs x) xs
all_here [] = tt
all_here (x ∷ xs) = (inl refl, all_map (λ y. Among xs y) (λ y. Among (x ∷ xs) y) xs (λ y m. inr m) (all_here xs))

-- REQUESTS

or_false : (a b : Bool) → a || b ≡ false → (a ≡ false) × (b ≡ false)
or_false true b e = cc
or_false false b e = (refl, e)

eqb_self : (n : ℕ) → (n == n) ≡ true
eqb_self n = elim (eqb_tells n n) [
  | inl h ↦ h.0
  | inr h ↦ absurd (h.1 refl)
]

-- a number that wasn't sent is no request's
pub not_sent : (rs : List Request) (n : ℕ) → is_sent rs n ≡ false → AllByRecursion (λ r. r.number ≢ n) rs
not_sent [] n h = tt
not_sent (r ∷ rs) n h =
    let both = or_false (r.number == n) (is_sent rs n) h in
    ((λ e. absurd (false_true (sym both.0 ∙ ap (λ x. x == n) e ∙ eqb_self n))), not_sent rs n both.1)
  where
    false_true : false ≡ true → ⊥
    false_true e = cc

is_sent-push : (rs : List Request) (r : Request) (n : ℕ) → is_sent (rs ++ r ∷ []) n ≡ is_sent rs n || (r.number == n)
is_sent-push [] r n = or_none (r.number == n)
  where
    or_none : (a : Bool) → a || false ≡ a
    or_none true = refl
    or_none false = refl
is_sent-push (q ∷ rs) r n = ap (λ b. (q.number == n) || b) (is_sent-push rs r n) ∙ sym (or_assoc (q.number == n) (is_sent rs n) (r.number == n))
  where
    or_assoc : (a b c : Bool) → (a || b) || c ≡ a || (b || c)
    or_assoc true b c = refl
    or_assoc false b c = refl

get-set-same : {X : Type 0} (xs : List X) (i : ℕ) (x d : X) → i < length xs → get_or (set xs i x) i d ≡ x
get-set-same [] i x d h = absurd (omega (arith, h))
get-set-same (y ∷ xs) zero x d h = refl
get-set-same (y ∷ xs) (suc i) x d h = get-set-same xs i x d (omega (arith, h))

get-set-other : {X : Type 0} (xs : List X) (i j : ℕ) (x d : X) → (i ≡ j → ⊥) → get_or (set xs i x) j d ≡ get_or xs j d
get-set-other [] i j x d h = refl
get-set-other (y ∷ xs) zero zero x d h = absurd (h refl)
get-set-other (y ∷ xs) zero (suc j) x d h = refl
get-set-other (y ∷ xs) (suc i) zero x d h = refl
get-set-other (y ∷ xs) (suc i) (suc j) x d h = get-set-other xs i j x d (λ e. h (ap suc e))

-- a flag more is set where a request is sent
pub flags_more : (used : List Bool) (rs : List Request) (r : Request) → length used ≡ 65537 → r.number ≤ 65536 → ((n : ℕ) → n ≤ 65536 → get_or used n false ≡ is_sent rs n)
    → (n : ℕ) → n ≤ 65536 → get_or (set used r.number true) n false ≡ is_sent (rs ++ r ∷ []) n
flags_more used rs r size low same n most = elim (eqb_tells r.number n) [
  | inl h ↦
      ap (λ i. get_or (set used r.number true) i false) (sym h.1) ∙ get-set-same used r.number true false (omega (arith, size, low))
      ∙ sym (is_sent-push rs r n ∙ ap (λ b. is_sent rs n || b) h.0 ∙ or_true (is_sent rs n))
  | inr h ↦
      get-set-other used r.number n true false h.1 ∙ same n most
      ∙ sym (is_sent-push rs r n ∙ ap (λ b. is_sent rs n || b) h.0 ∙ or_none (is_sent rs n))
]
  where
    or_true : (a : Bool) → a || true ≡ true
    or_true true = refl
    or_true false = refl

    or_none : (a : Bool) → a || false ≡ a
    or_none true = refl
    or_none false = refl

-- a request with a new number comes behind distinct ones
pub distinct_push : (rs : List Request) (r : Request) → AreDistinct rs → AllByRecursion (λ q. q.number ≢ r.number) rs → AreDistinct (rs ++ r ∷ [])
distinct_push [] r h k = (tt, tt)
distinct_push (q ∷ rs) r h k = (all_push (λ p. p.number ≢ q.number) rs r h.0 (λ e. k.0 (sym e)), distinct_push rs r h.1 k.1)

-- SEATS

-- no item of a client has a number above its greatest
pub greatest_above : (c : ℕ) (h : List Item) → AllByRecursion (λ i. i.request.client ≡ c → i.request.number ≤ greatest c h) h
greatest_above c [] = tt
greatest_above c (i ∷ h) =
    let rest = greatest_above c h in (
      (λ e. elim (eqb_tells i.request.client c) as (λ _. i.request.number ≤ greatest c (i ∷ h)) [
        | inl t ↦ let own : cond (i.request.client == c) i.request.number 0 ≡ i.request.number = ap (λ b. cond b i.request.number 0) t.0 in omega (arith, own)
        | inr f ↦ absurd (f.1 e)
      ]),
      all_map (λ (j : Item). j.request.client ≡ c → j.request.number ≤ greatest c h) (λ j. j.request.client ≡ c → j.request.number ≤ greatest c (i ∷ h)) h (λ j low e. let l = low e in omega (arith, l)) rest,
    )

-- a greatest number that isn't 0 is an item's
pub record HasGreatest (c : ℕ) (h : List Item) : Type 0 where
  pub item : Item
  pub among : Among h item
  pub client : item.request.client ≡ c
  pub number : item.request.number ≡ greatest c h

pub greatest_item : (c : ℕ) (h : List Item) → 0 < greatest c h → HasGreatest c h
greatest_item c [] above = absurd (omega (arith, above))
greatest_item c (i ∷ h) above = elim (eqb_tells i.request.client c) [
  | inl t ↦
      let own : cond (i.request.client == c) i.request.number 0 ≡ i.request.number = ap (λ b. cond b i.request.number 0) t.0 in
      elim (order (greatest c h) i.request.number) [
        | inl low ↦ record { item = i; among = inl refl; client = t.1; number = omega (arith, own, low) }
        | inr high ↦
            let g = greatest_item c h (omega (arith, high)) in
            let n = g.number in
            record { item = g.item; among = inr g.among; client = g.client; number = omega (arith, n, own, high) }
      ]
  | inr f ↦
      let own : cond (i.request.client == c) i.request.number 0 ≡ 0 = ap (λ b. cond b i.request.number 0) f.0 in
      let g = greatest_item c h (omega (arith, above, own)) in
      let n = g.number in
      record { item = g.item; among = inr g.among; client = g.client; number = omega (arith, n, own) }
]
  where
    order : (m n : ℕ) → (m ≤ n) ⊎ (n < m)
    order m n = elim (split (m - n)) [
      | inl z ↦ inl (omega (arith, z))
      | inr s ↦ inr (omega (arith, s))
    ]
      where
        split : (k : ℕ) → (k ≡ 0) ⊎ (0 < k)
        split zero = inl refl
        split (suc k) = inr (omega arith)

greatest-push : (c : ℕ) (h : List Item) (i : Item) → greatest c (h ++ i ∷ []) ≡ max (greatest c h) (cond (i.request.client == c) i.request.number 0)
greatest-push c [] i = omega arith
greatest-push c (j ∷ h) i = let e = greatest-push c h i in omega (arith, e)

-- the seats after an item whose number isn't below that of its client
pub seats_more : (seats : List ℕ) (h : List Item) (i : Item) → length seats ≡ 256 → i.request.client < 256 → greatest i.request.client h ≤ i.request.number
    → ((c : ℕ) → c < 256 → get_or seats c 0 ≡ greatest c h) → (c : ℕ) → c < 256 → get_or (set seats i.request.client i.request.number) c 0 ≡ greatest c (h ++ i ∷ [])
seats_more seats h i size client above same c low = elim (eqb_tells i.request.client c) [
  | inl t ↦
      let own : cond (i.request.client == c) i.request.number 0 ≡ i.request.number = ap (λ b. cond b i.request.number 0) t.0 in
      let push = greatest-push c h i in
      let most : greatest c h ≤ i.request.number = subst (λ x. greatest x h ≤ i.request.number) t.1 above in
      let set_here : get_or (set seats i.request.client i.request.number) c 0 ≡ i.request.number =
      ap (λ k. get_or (set seats i.request.client i.request.number) k 0) (sym t.1) ∙ get-set-same seats i.request.client i.request.number 0 (omega (arith, size, client)) in
      set_here ∙ omega (arith, push, own, most)
  | inr f ↦
      let own : cond (i.request.client == c) i.request.number 0 ≡ 0 = ap (λ b. cond b i.request.number 0) f.0 in
      let push = greatest-push c h i in
      get-set-other seats i.request.client c i.request.number 0 f.1 ∙ same c low ∙ omega (arith, push, own)
]
