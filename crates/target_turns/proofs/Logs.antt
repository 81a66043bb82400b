-- A loop that goes through the live records of a log.
use Rattle.std.proofs.Common.{◌≡◌, ℕ, zero, suc, ◌+◌, ◌-◌, ◌<◌, List, [], ◌∷◌, ◌++◌, Option, Some, None, refl, sym, ap, ap₂, ◌∙◌, append_assoc, append-nil, arith}
use Rattle.std.specs.List.{flat_map}
use Rattle.llog_store.specs.Log.{Entry}
use Rattle.llog_store.specs.Changes.{first_live}
use Rattle.target_turns.specs.Showing.{then_live, live_from}

-- one record more
live_some : (n from index : ℕ) (payload : List ℕ) (es : List Entry) → first_live from es ≡ Some (index, payload) → live_from (suc n) from es ≡ (index, payload) ∷ live_from n (index + 1) es
unfolding live_from
live_some n from index payload es e = ap (λ (o : Option (ℕ × List ℕ)). then_live o (λ next. live_from n next es)) e

-- none is left
live_none : (n from : ℕ) (es : List Entry) → first_live from es ≡ None → live_from n from es ≡ []
unfolding live_from
live_none zero from es e = refl
live_none (suc n) from es e = ap (λ (o : Option (ℕ × List ℕ)). then_live o (λ next. live_from n next es)) e

live_zero : (from : ℕ) (es : List Entry) → live_from 0 from es ≡ []
unfolding live_from
live_zero from es = refl

pub goes_on : {Y : Type 0} (f : ℕ × List ℕ → List Y) (out : List Y) (n i from index next : ℕ) (payload : List ℕ) (ys : List Y) (es : List Entry) (whole : List Y) → i < n → first_live from es ≡ Some (index, payload) → next ≡ index + 1 → f (index, payload) ≡ ys
    → out ++ flat_map f (live_from (n - i) from es) ≡ whole → (out ++ ys) ++ flat_map f (live_from (n - (i + 1)) next es) ≡ whole
goes_on {Y} f out n i from index next payload ys es whole h e behind told w =
    let left : n - i ≡ suc (n - (i + 1)) = omega arith in
    append_assoc out ys (flat_map f (live_from (n - (i + 1)) next es))
    ∙ ap₂ (λ (zs : List Y) (m : ℕ). out ++ (zs ++ flat_map f (live_from (n - (i + 1)) m es))) (sym told) behind
    ∙ ap (λ (xs : List (ℕ × List ℕ)). out ++ flat_map f xs) (sym (live_some (n - (i + 1)) from index payload es e))
    ∙ ap (λ (m : ℕ). out ++ flat_map f (live_from m from es)) (sym left)
    ∙ w

pub is_over : {Y : Type 0} (f : ℕ × List ℕ → List Y) (out : List Y) (n from : ℕ) (es : List Entry) (whole : List Y) → first_live from es ≡ None → out ++ flat_map f (live_from n from es) ≡ whole → out ≡ whole
is_over {Y} f out n from es whole e w =
    sym (append-nil out) ∙ ap (λ (xs : List (ℕ × List ℕ)). out ++ flat_map f xs) (sym (live_none n from es e)) ∙ w

pub is_done : {Y : Type 0} (f : ℕ × List ℕ → List Y) (out : List Y) (n from : ℕ) (es : List Entry) (whole : List Y) → n ≡ 0 → out ++ flat_map f (live_from n from es) ≡ whole → out ≡ whole
is_done {Y} f out n from es whole z w =
    sym (append-nil out) ∙ ap (λ (xs : List (ℕ × List ℕ)). out ++ flat_map f xs) (sym (ap (λ (m : ℕ). live_from m from es) z ∙ live_zero from es)) ∙ w
