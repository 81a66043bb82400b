-- Lists, places and updates.
use Rattle.std.proofs.Common.{max, le_refl, Option, Some, None, Bool, List, [], ap, arith, false, if◌then◌else◌, inl, inr, length, refl, subst, suc, sym, true, zero, ℕ, ⊎_elim, ◌++◌, ◌<◌, ◌∙◌, ◌∷◌, ◌≡◌, ◌≢◌, ◌≤◌, ◌⊎◌}
use Rattle.std.proofs.lemmas.Bool.Decides.{eqb_tells, nat_tests}
use Rattle.std.specs.Prelude.{take, ◌==◌}
use Rattle.update_protocol.specs.Lists.{IsIn, Rising, put, put_two}
use Rattle.update_protocol.specs.World.{Accepted, Attempt, Each, Pairs, at, count_home, master, nobody}

pub put_same : {A : Type 0} (f : ℕ → A) (t : ℕ) (v : A) → put f t v t ≡ v
put_same f t v = grind (arith, nat_tests)

pub put_cases : {A : Type 0} (P : A → Type 0) (f : ℕ → A) (t : ℕ) (v : A) (s : ℕ) → (s ≡ t → P v) → (s ≢ t → P (f s)) → P (put f t v s)
put_cases P f t v s same other =
    elim (eqb_tells s t) [ inl w ↦ subst (λ b. P (if b then v else f s)) (sym w.0) (same w.1) | inr w ↦ subst (λ b. P (if b then v else f s)) (sym w.0) (other w.1) ]

pub at-new : (xs : List Accepted) (x : Accepted) → at (xs ++ x ∷ []) (length xs) ≡ x
unfolding at
at-new [] x = refl
at-new (y ∷ xs) x = at-new xs x

pub at-old : (xs : List Accepted) (x : Accepted) (n : ℕ) → n < length xs → at (xs ++ x ∷ []) n ≡ at xs n
unfolding at
at-old [] x n l = absurd (omega arith)
at-old (y ∷ xs) x zero l = refl
at-old (y ∷ xs) x (suc n) l = at-old xs x n (omega arith)

pub at-none : (xs : List Accepted) (n : ℕ) → length xs ≤ n → at xs n ≡ nobody
unfolding at
at-none [] n l = refl
at-none (y ∷ xs) zero l = absurd (omega arith)
at-none (y ∷ xs) (suc n) l = at-none xs n (omega arith)

pub length-push : {A : Type 0} (xs : List A) (x : A) → length (xs ++ x ∷ []) ≡ suc (length xs)
length-push [] x = refl
length-push (y ∷ xs) x = ap suc (length-push xs x)

pub each_push : (R : ℕ → Accepted → Type 0) (xs : List Accepted) (x : Accepted) → Each R xs → R (length xs) x → Each R (xs ++ x ∷ [])
each_push R xs x old new n l =
    elim (eqb_tells n (length xs)) [
      | inl w ↦ subst (λ k. R k (at (xs ++ x ∷ []) k)) (sym w.1) (subst (λ y. R (length xs) y) (sym (at-new xs x)) new)
      | inr w ↦ let lt : n < length xs = omega (arith, l, w.1, length-push xs x) in subst (λ y. R n y) (sym (at-old xs x n lt)) (old n lt)
    ]

pub pairs_push : (R : ℕ → ℕ → Accepted → Accepted → Type 0) (xs : List Accepted) (x : Accepted) → Pairs R xs → ((n : ℕ) → n < length xs → R n (length xs) (at xs n) x) → Pairs R (xs ++ x ∷ [])
pairs_push R xs x old new n m o l =
    elim (eqb_tells m (length xs)) [
      | inl w ↦ let lt : n < length xs = omega (arith, o, w.1) in subst (λ k. R n k (at (xs ++ x ∷ []) n) (at (xs ++ x ∷ []) k)) (sym w.1) (subst (λ y. R n (length xs) (at (xs ++ x ∷ []) n) y) (sym (at-new xs x)) (subst (λ y. R n (length xs) y x) (sym (at-old xs x n lt)) (new n lt)))
      | inr w ↦ let mt : m < length xs = omega (arith, l, w.1, length-push xs x) in let lt : n < length xs = omega (arith, o, mt) in
          subst (λ y. R n m (at (xs ++ x ∷ []) n) y) (sym (at-old xs x m mt)) (subst (λ y. R n m y (at xs m)) (sym (at-old xs x n lt)) (old n m o mt))
    ]

pub mem_push : {A : Type 0} (xs : List A) (y x : A) → IsIn x (xs ++ y ∷ []) → IsIn x xs ⊎ (x ≡ y)
mem_push [] y x (inl e) = inr e
mem_push [] y x (inr e) = absurd e
mem_push (z ∷ xs) y x (inl e) = inl (inl e)
mem_push (z ∷ xs) y x (inr h) = ⊎_elim (λ a. inl (inr a)) (λ e. inr e) (mem_push xs y x h)

pub mem_left : {A : Type 0} (xs : List A) (y x : A) → IsIn x xs → IsIn x (xs ++ y ∷ [])
mem_left [] y x h = absurd h
mem_left (z ∷ xs) y x (inl e) = inl e
mem_left (z ∷ xs) y x (inr h) = inr (mem_left xs y x h)

pub mem_last : {A : Type 0} (xs : List A) (y : A) → IsIn y (xs ++ y ∷ [])
mem_last [] y = inl refl
mem_last (z ∷ xs) y = inr (mem_last xs y)

pub rising_push : (xs : List ℕ) (y : ℕ) → Rising xs → ((x : ℕ) → IsIn x xs → x < y) → Rising (xs ++ y ∷ [])
rising_push [] y r below = ((λ z h. absurd h), tt)
rising_push (x ∷ xs) y r below = (
  (λ z h. ⊎_elim (λ (a : IsIn z xs). r.0 z a) (λ (e : z ≡ y). subst (λ k. x < k) (sym e) (below x (inl refl))) (mem_push xs y z h)),
  rising_push xs y r.1 (λ z h. below z (inr h)),
)

-- the fact may speak of the place too
pub put_at : {A : Type 0} (P : ℕ → A → Type 0) (f : ℕ → A) (t : ℕ) (v : A) (s : ℕ) → P t v → (s ≢ t → P s (f s)) → P s (put f t v s)
put_at P f t v s same other =
    put_cases (P s) f t v s (λ e. subst (λ k. P k v) (sym e) same) other

pub by_bool : (b : Bool) → (b ≡ true) ⊎ (b ≡ false)
by_bool true = inl refl
by_bool false = inr refl

pub count_here : (m : ℕ) (xs : List Accepted) (x : Accepted) → master x ≡ m → count_home m (xs ++ x ∷ []) ≡ suc (count_home m xs)
count_here m [] x e = elim (eqb_tells (master x) m) [ inl q ↦ ap (λ b. if b then suc zero else zero) q.0 | inr q ↦ absurd (q.1 e) ]
count_here m (y ∷ xs) x e = elim (eqb_tells (master y) m) [
  | inl q ↦ ap (λ b. if b then suc (count_home m (xs ++ x ∷ [])) else count_home m (xs ++ x ∷ [])) q.0 ∙ ap suc (count_here m xs x e) ∙ ap suc (sym (ap (λ b. if b then suc (count_home m xs) else count_home m xs) q.0))
  | inr q ↦ ap (λ b. if b then suc (count_home m (xs ++ x ∷ [])) else count_home m (xs ++ x ∷ [])) q.0 ∙ count_here m xs x e ∙ ap suc (sym (ap (λ b. if b then suc (count_home m xs) else count_home m xs) q.0))
]

pub count_other : (m : ℕ) (xs : List Accepted) (x : Accepted) → (master x ≡ m → ⊥) → count_home m (xs ++ x ∷ []) ≡ count_home m xs
count_other m [] x d = elim (eqb_tells (master x) m) [ inl q ↦ absurd (d q.1) | inr q ↦ ap (λ b. if b then suc zero else zero) q.0 ]
count_other m (y ∷ xs) x d = ap (λ n. if master y == m then suc n else n) (count_other m xs x d)

pub take_old : (xs : List Accepted) (x : Accepted) (n : ℕ) → n ≤ length xs → take n (xs ++ x ∷ []) ≡ take n xs
take_old xs x zero l = refl
take_old [] x (suc n) l = absurd (omega (arith, l))
take_old (y ∷ xs) x (suc n) l = ap (λ ys. y ∷ ys) (take_old xs x n (omega (arith, l)))

pub take_whole : (xs : List Accepted) → take (length xs) xs ≡ xs
take_whole [] = refl
take_whole (x ∷ xs) = ap (λ ys. x ∷ ys) (take_whole xs)

pub put_two_same : (f : ℕ → ℕ → ℕ) (t m v : ℕ) → put f t (put (f t) m v) t m ≡ v
put_two_same f t m v = ap (λ g. g m) (put_same f t (put (f t) m v)) ∙ put_same (f t) m v

-- a greater turn is noted as ended
pub ended_more : (ended : ℕ → ℕ → ℕ) (t m x : ℕ) (s r : ℕ) → ended s r ≤ put_two ended t m (max (ended t m) x) s r
ended_more ended t m x s r = put_at (λ s f. ended s r ≤ f r) ended t (put (ended t) m (max (ended t m) x)) s
    (put_at (λ r y. ended t r ≤ y) (ended t) m (max (ended t m) x) r (omega arith) (λ d. le_refl _)) (λ d. le_refl _)

pub none_less : (trying : ℕ → Option Attempt) (t m : ℕ) (a : Attempt) → put trying t None m ≡ Some a → (m ≢ t) × (trying m ≡ Some a)
none_less trying t m a = put_at (λ m x. x ≡ Some a → (m ≢ t) × (trying m ≡ Some a)) trying t None m (λ e. absurd (grind arith)) (λ d e. (d, e))
