-- A loop that goes through the live records of a log.
use Rattle.std.proofs.Common.{◌≡◌, ℕ, zero, suc, ◌+◌, ◌-◌, ◌<◌, Bool, true, false, ◌||◌, List, [], ◌∷◌, Option, Some, None, refl, sym, ap, ap₂, ◌∙◌, arith}
use Rattle.llog_store.specs.Log.{Entry}
use Rattle.llog_store.specs.Changes.{first_live}
use Rattle.update_record.specs.Values.{record_value}
use Rattle.update_recovery.specs.declared.found.Found.{Found}
use Rattle.update_recovery.specs.Live.{then_live, live_from}
use Rattle.update_recovery.specs.Union.{is_found, is_among}

or_true : (b : Bool) → (b || true) ≡ true
or_true true = refl
or_true false = refl

or_move : (a c r : Bool) → (c || (a || r)) ≡ ((a || c) || r)
or_move true c r = or_true c
or_move false c r = refl

-- one record more
live_some : (n from index : ℕ) (payload : List ℕ) (es : List Entry) → first_live from es ≡ Some (index, payload) → live_from (suc n) from es ≡ (index, payload) ∷ live_from n (index + 1) es
unfolding live_from
live_some n from index payload es e = ap (λ (o : Option (ℕ × List ℕ)). then_live o (λ next. live_from n next es)) e

-- none is left
live_none : (n from : ℕ) (es : List Entry) → first_live from es ≡ None → live_from n from es ≡ []
unfolding live_from
live_none zero from es e = refl
live_none (suc n) from es e = ap (λ (o : Option (ℕ × List ℕ)). then_live o (λ next. live_from n next es)) e

live_zero : (from : ℕ) (es : List Entry) → live_from 0 from es ≡ []
unfolding live_from
live_zero from es = refl

module _ (epoch : ℕ) (marks : List ℕ) (k : Found) (es : List Entry) (whole : Bool) where
  pub goes_on : (b now : Bool) (n i from index next : ℕ) (payload : List ℕ) → i < n → first_live from es ≡ Some (index, payload) → next ≡ index + 1
      → now ≡ (is_found epoch marks k (record_value payload) payload || b)
      → (is_among epoch marks k (live_from (n - i) from es) || b) ≡ whole → (is_among epoch marks k (live_from (n - (i + 1)) next es) || now) ≡ whole
  goes_on b now n i from index next payload h e behind step w =
      let left : n - i ≡ suc (n - (i + 1)) = omega arith in
      let here = is_found epoch marks k (record_value payload) payload in
      ap₂ (λ (m : ℕ) (x : Bool). is_among epoch marks k (live_from (n - (i + 1)) m es) || x) behind step
      ∙ or_move here (is_among epoch marks k (live_from (n - (i + 1)) (index + 1) es)) b
      ∙ ap (λ (xs : List (ℕ × List ℕ)). is_among epoch marks k xs || b) (sym (live_some (n - (i + 1)) from index payload es e))
      ∙ ap (λ (m : ℕ). is_among epoch marks k (live_from m from es) || b) (sym left)
      ∙ w

  pub is_over : (b : Bool) (n from : ℕ) → first_live from es ≡ None → (is_among epoch marks k (live_from n from es) || b) ≡ whole → b ≡ whole
  is_over b n from e w = ap (λ (xs : List (ℕ × List ℕ)). is_among epoch marks k xs || b) (sym (live_none n from es e)) ∙ w

  pub is_done : (b : Bool) (n from : ℕ) → n ≡ 0 → (is_among epoch marks k (live_from n from es) || b) ≡ whole → b ≡ whole
  is_done b n from z w = ap (λ (xs : List (ℕ × List ℕ)). is_among epoch marks k xs || b) (sym (ap (λ (m : ℕ). live_from m from es) z ∙ live_zero from es)) ∙ w
