-- Where the payload of one live record stands.
use Rattle.std.proofs.Common.{◌≡◌, ℕ, zero, suc, ◌+◌, ◌<◌, ◌≤◌, Bool, true, false, cond, eqb, ◌&&◌, ◌||◌, List, [], ◌∷◌, length, get_or, take, drop, map, Option, Some, None, refl, sym, ap, subst, ◌∙◌, arith, inl, inr}
use Rattle.std.specs.Prelude.{◌↔◌}
use Rattle.std.proofs.lemmas.Bool.Decides.{eqb_tells}
use Rattle.llog_store.specs.declared.place.Place.{Place}
use Rattle.llog_store.specs.Log.{Entry, Log, record_size, start_of, entry_end, Follows, is_live, live_count, log_text, IsLog}
use Rattle.llog_store.specs.Places.{places_of}
use Rattle.llog_store.specs.Kept.{IsKept, marked, seen}
use Rattle.llog_store.specs.Changes.{live_payload, live_place}
use Rattle.llog_store.proofs.Whole.{below_none}
use Rattle.llog_store.proofs.Keeping.{and_false, and_with, or_off, and_or_off, neither}
use Rattle.llog_store.proofs.Seeing.{marked_kept, seen_kept}

pub no_place : (place i : ℕ) (es : List Entry) → is_live es i ≡ false → live_place place i es ≡ None
unfolding is_live live_place
no_place place i [] h = refl
no_place place i (e ∷ es) h =
    let parts = neither (e.live && eqb e.index i) (is_live es i) h in
    rw (parts.0, no_place (entry_end place e) i es parts.1) refl

-- the live record with an index is the first that isn't before it
pub stands : (place index i : ℕ) (es : List Entry) (next first : ℕ) → Follows place index es next → is_live es i ≡ true
    → ((k : ℕ) (d : Place) → k < first → (get_or (places_of place es) k d).index < i) → ((k : ℕ) (d : Place) → first ≤ k → k < length (places_of place es) → i ≤ (get_or (places_of place es) k d).index)
    → (first < length (places_of place es)) × ((d : Place) → live_place place i es ≡ Some ((get_or (places_of place es) first d).at + 24))
unfolding Follows is_live places_of live_place
stands place index i [] next first f h before from = absurd cc
stands place index i (e ∷ es) next zero f h before from =
    elim (eqb_tells e.index i) [
      | inl k ↦
          let same = k.1 in
          let after : is_live es i ≡ false = below_none (entry_end place e) (e.index + 1) es next i f.2 (omega arith) in
          let alive : e.live ≡ true = sym (or_off (e.live && true) ∙ and_with e.live) ∙ sym (rw (k.0, after) refl) ∙ h in
          (omega arith, λ d. rw (k.0, alive) refl)
      | inr k ↦
          let later : is_live es i ≡ true = sym (and_or_off e.live (is_live es i)) ∙ sym (ap (λ (b : Bool). (e.live && b) || is_live es i) k.0) ∙ h in
          let high : i ≤ e.index = from 0 (record { index = 0; at = 0; length = 0 }) (omega arith) (omega arith) in
          absurd (let none = below_none (entry_end place e) (e.index + 1) es next i f.2 (omega (arith, high)) in let bad : true ≡ false = sym later ∙ none in cc)
    ]
stands place index i (e ∷ es) next (suc first) f h before from =
    let low : e.index < i = before 0 (record { index = 0; at = 0; length = 0 }) (omega arith) in
    elim (eqb_tells e.index i) [
      | inl k ↦ absurd (let same = k.1 in omega arith)
      | inr k ↦
          let later : is_live es i ≡ true = sym (and_or_off e.live (is_live es i)) ∙ sym (ap (λ (b : Bool). (e.live && b) || is_live es i) k.0) ∙ h in
          let ih = stands (entry_end place e) (e.index + 1) i es next first f.2 later (λ n d lt. before (suc n) d (omega arith)) (λ n d le lt. from (suc n) d (omega arith) (omega arith)) in
          (omega (arith, ih.0), λ d. rw (k.0, and_false e.live) (ih.1 d))
    ]

pub standing : (log : Log) (bytes : List ℕ) (places : List Place) (next live i first : ℕ) → IsKept log bytes places next live → marked bytes i ≡ true → ((k : ℕ) (d : Place) → k < first → (get_or places k d).index < i) → ((k : ℕ) (d : Place) → first ≤ k → k < length places → i ≤ (get_or places k d).index)
    → (first < length places) × ((d : Place) → live_place 32768 i log.entries ≡ Some ((get_or places first d).at + 24))
standing log bytes places next live i first k h before from =
    let alive : is_live log.entries i ≡ true = sym (marked_kept log bytes places next live i k) ∙ h in
    let at_all = stands 32768 1 i log.entries log.next first k.is.follows alive in
    let both = subst (λ (ps : List Place). ((k : ℕ) (d : Place) → k < first → (get_or ps k d).index < i) → ((k : ℕ) (d : Place) → first ≤ k → k < length ps → i ≤ (get_or ps k d).index)
    → (first < length ps) × ((d : Place) → live_place 32768 i log.entries ≡ Some ((get_or ps first d).at + 24))) (sym k.places_are) at_all in
    both before from

-- ---- what stands there

here_or_later : (b : Bool) (bytes payload p : List ℕ) (start at : ℕ) (o : Option ℕ) (q : Option (List ℕ)) → take (length p) (drop start bytes) ≡ p → (o ≡ Some at → q ≡ Some payload → take (length payload) (drop at bytes) ≡ payload)
    → cond b (Some start) o ≡ Some at → cond b (Some p) q ≡ Some payload → take (length payload) (drop at bytes) ≡ payload
here_or_later true bytes payload p start at o q here later a e =
    let same_place : start ≡ at = cc in
    let same : p ≡ payload = cc in
    rw (← same_place, ← same) here
here_or_later false bytes payload p start at o q here later a e = later a e

seen_there : (bytes : List ℕ) (place i : ℕ) (es : List Entry) (at : ℕ) (payload : List ℕ) → map (seen bytes) (places_of place es) ≡ es → live_place place i es ≡ Some at → live_payload i es ≡ Some payload → take (length payload) (drop at bytes) ≡ payload
unfolding places_of live_place live_payload
seen_there bytes place i [] at payload s a e = absurd cc
seen_there bytes place i (x ∷ es) at payload s a e =
    let p : Place = record { index = x.index; at = start_of place (record_size (length x.payload)); length = length x.payload } in
    let first : seen bytes p ≡ x = cc in
    let others : map (seen bytes) (places_of (entry_end place x) es) ≡ es = cc in
    here_or_later (x.live && eqb x.index i) bytes payload x.payload (p.at + 24) at _ _ (ap (λ (y : Entry). y.payload) first) (λ a2 e2. seen_there bytes (entry_end place x) i es at payload others a2 e2) a e

pub stands_there : (log : Log) (i at : ℕ) (payload : List ℕ) → IsLog log → live_place 32768 i log.entries ≡ Some at → live_payload i log.entries ≡ Some payload → take (length payload) (drop at (log_text log)) ≡ payload
stands_there log i at payload is a e =
    let seen_all = seen_kept log (log_text log) (places_of 32768 log.entries) log.next (live_count log.entries) (record { text = refl; is = is; places_are = refl; next_is = refl; live_is = refl }) in
    seen_there (log_text log) 32768 i log.entries at payload seen_all a e

none_cases : (b : Bool) (n : ℕ) (p : List ℕ) (o : Option ℕ) (q : Option (List ℕ)) → (o ≡ None) ↔ (q ≡ None) → (cond b (Some n) o ≡ None) ↔ (cond b (Some p) q ≡ None)
none_cases true n p o q h = ((λ e. absurd cc), (λ e. absurd cc))
none_cases false n p o q h = h

pub none_both : (place i : ℕ) (es : List Entry) → (live_place place i es ≡ None) ↔ (live_payload i es ≡ None)
unfolding live_place live_payload
none_both place i [] = ((λ e. refl), (λ e. refl))
none_both place i (e ∷ es) = none_cases (e.live && eqb e.index i) _ e.payload _ _ (none_both (entry_end place e) i es)
