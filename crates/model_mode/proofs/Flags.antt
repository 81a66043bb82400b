-- The flags of the numbers that requests had.
use Rattle.std.proofs.Common.{◌≡◌, ◌==◌, ◌||◌, ◌<◌, ◌≤◌, ℕ, zero, suc, Bool, true, false, List, [], ◌∷◌, ◌++◌, length, get_or, set, inl, inr, refl, sym, ap, ◌∙◌, arith}
use Rattle.std.proofs.lemmas.Bool.Decides.{eqb_tells}
use Rattle.std.proofs.lemmas.List.{length-replicate}
use Rattle.tree_model.specs.declared.op.Request.{Request}
use Rattle.scenario_text.specs.Machine.{is_sent}
use Rattle.model_mode.specs.Kept.{no_flags}

pub length-flags : (n : ℕ) → length (no_flags n) ≡ n
unfolding no_flags
length-flags n = length-replicate n false

is_sent-push : (rs : List Request) (r : Request) (n : ℕ) → is_sent (rs ++ r ∷ []) n ≡ is_sent rs n || (r.number == n)
is_sent-push [] r n = or_none (r.number == n)
  where
    or_none : (a : Bool) → a || false ≡ a
    or_none true = refl
    or_none false = refl
is_sent-push (q ∷ rs) r n = ap (λ b. (q.number == n) || b) (is_sent-push rs r n) ∙ sym (or_assoc (q.number == n) (is_sent rs n) (r.number == n))
  where
    or_assoc : (a b c : Bool) → (a || b) || c ≡ a || (b || c)
    or_assoc true b c = refl
    or_assoc false b c = refl

get-set-same : {X : Type 0} (xs : List X) (i : ℕ) (x d : X) → i < length xs → get_or (set xs i x) i d ≡ x
get-set-same [] i x d h = absurd (omega (arith, h))
get-set-same (y ∷ xs) zero x d h = refl
get-set-same (y ∷ xs) (suc i) x d h = get-set-same xs i x d (omega (arith, h))

get-set-other : {X : Type 0} (xs : List X) (i j : ℕ) (x d : X) → (i ≡ j → ⊥) → get_or (set xs i x) j d ≡ get_or xs j d
get-set-other [] i j x d h = refl
get-set-other (y ∷ xs) zero zero x d h = absurd (h refl)
get-set-other (y ∷ xs) zero (suc j) x d h = refl
get-set-other (y ∷ xs) (suc i) zero x d h = refl
get-set-other (y ∷ xs) (suc i) (suc j) x d h = get-set-other xs i j x d (λ e. h (ap suc e))

-- a flag more is set where a request is sent
pub flags_more : (used : List Bool) (rs : List Request) (r : Request) → length used ≡ 65537 → r.number ≤ 65536 → ((n : ℕ) → n ≤ 65536 → get_or used n false ≡ is_sent rs n)
    → (n : ℕ) → n ≤ 65536 → get_or (set used r.number true) n false ≡ is_sent (rs ++ r ∷ []) n
flags_more used rs r size low same n most = elim (eqb_tells r.number n) [
  | inl h ↦
      ap (λ i. get_or (set used r.number true) i false) (sym h.1) ∙ get-set-same used r.number true false (omega (arith, size, low))
      ∙ sym (is_sent-push rs r n ∙ ap (λ b. is_sent rs n || b) h.0 ∙ or_true (is_sent rs n))
  | inr h ↦
      get-set-other used r.number n true false h.1 ∙ same n most
      ∙ sym (is_sent-push rs r n ∙ ap (λ b. is_sent rs n || b) h.0 ∙ or_none (is_sent rs n))
]
  where
    or_true : (a : Bool) → a || true ≡ true
    or_true true = refl
    or_true false = refl

    or_none : (a : Bool) → a || false ≡ a
    or_none true = refl
    or_none false = refl
