-- One entry further in a result.
use Rattle.std.proofs.Common.{◌≡◌, ◌≢◌, ◌==◌, inl, inr, ℕ, zero, suc, Bool, true, false, if◌then◌else◌, Option, Some, None, List, [], ◌∷◌, length, refl, sym, ap, subst, ◌∙◌}
use Rattle.std.proofs.lemmas.Bool.Decides.{eqb_tells}
use Rattle.plan_base.specs.Listed.{Entry, next_entry, and_more, entries_from, rising, goes_on, rise_to_end}

pub one_read : (n k : ℕ) (rest : List ℕ) (e : Entry) (behind : List ℕ) → n ≡ suc k → next_entry rest ≡ Some (e, behind) → entries_from n rest ≡ e ∷ entries_from k behind
unfolding entries_from
one_read n k rest e behind m h = ap (λ i. entries_from i rest) m ∙ ap (λ o. and_more o (entries_from k)) h

pub none_read : (n : ℕ) (rest : List ℕ) → next_entry rest ≡ None → entries_from n rest ≡ []
unfolding entries_from
none_read zero rest h = refl
none_read (suc n) rest h = ap (λ o. and_more o (entries_from n)) h

pub all_read : (n : ℕ) (rest : List ℕ) → n ≡ 0 → entries_from n rest ≡ []
unfolding entries_from
all_read n rest m = ap (λ i. entries_from i rest) m

pub rise_ended : (n : ℕ) (last rest : List ℕ) → length rest ≡ 0 → rise_to_end n last rest ≡ true
unfolding rise_to_end
rise_ended zero last rest h = ap (λ k. k == 0) h
rise_ended (suc n) last rest h = ap (λ k. if k == 0 then true else goes_on (rising last (next_entry rest)) (rise_to_end n)) h

further : (n k : ℕ) (last rest : List ℕ) → n ≡ suc k → length rest ≢ 0 → rise_to_end n last rest ≡ goes_on (rising last (next_entry rest)) (rise_to_end k)
unfolding rise_to_end
further n k last rest m h = ap (λ i. rise_to_end i last rest) m ∙ elim (eqb_tells (length rest) 0) [
  | inl t ↦ absurd (h t.1)
  | inr t ↦ ap (λ b. if b then true else goes_on (rising last (next_entry rest)) (rise_to_end k)) t.0
]

pub rise_stopped : (n k : ℕ) (last rest : List ℕ) → n ≡ suc k → length rest ≢ 0 → rising last (next_entry rest) ≡ None → rise_to_end n last rest ≡ false
rise_stopped n k last rest m h e = further n k last rest m h ∙ ap (λ o. goes_on o (rise_to_end k)) e

pub rise_on : (n k : ℕ) (last rest name behind : List ℕ) → n ≡ suc k → length rest ≢ 0 → rising last (next_entry rest) ≡ Some (name, behind)
    → rise_to_end n last rest ≡ rise_to_end k name behind
rise_on n k last rest name behind m h e = further n k last rest m h ∙ ap (λ o. goes_on o (rise_to_end k)) e

pub rise_last : (n : ℕ) (last rest : List ℕ) → n ≡ 0 → rise_to_end n last rest ≡ (length rest == 0)
unfolding rise_to_end
rise_last n last rest m = ap (λ i. rise_to_end i last rest) m
