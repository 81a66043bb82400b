-- The payload of one live record.
use Rattle.std.proofs.Common.{◌≡◌, ℕ, ◌+◌, Bool, true, false, eqb, leb, ◌&&◌, ◌||◌, List, [], ◌∷◌, Option, Some, None, refl, sym, ap, ◌∙◌, arith, inl, inr}
use Rattle.std.specs.Option.{option_map}
use Rattle.std.proofs.lemmas.Bool.{le-leb}
use Rattle.std.proofs.lemmas.Bool.Decides.{eqb_tells, leb_tells}
use Rattle.llog_store.specs.Log.{Entry, Follows, is_live, entry_end}
use Rattle.llog_store.specs.Changes.{first_live, live_payload}
use Rattle.llog_store.proofs.Whole.{below_none}
use Rattle.llog_store.proofs.Keeping.{and_false, and_with, or_off, and_or_off, neither}

pub no_payload : (i : ℕ) (es : List Entry) → is_live es i ≡ false → live_payload i es ≡ None
unfolding is_live live_payload
no_payload i [] h = refl
no_payload i (e ∷ es) h =
    let parts = neither (e.live && eqb e.index i) (is_live es i) h in
    rw (parts.0, no_payload i es parts.1) refl

abbrev pub with_index : ℕ → List ℕ → ℕ × List ℕ
with_index i p = (i, p)

-- the first live record from an index on is the one with the index, where that one is live
pub live_first : (place index i : ℕ) (es : List Entry) (next : ℕ) → Follows place index es next → is_live es i ≡ true → first_live i es ≡ option_map (with_index i) (live_payload i es)
unfolding Follows is_live first_live live_payload
live_first place index i [] next f h = absurd cc
live_first place index i (e ∷ es) next f h =
    elim (eqb_tells e.index i) [
      | inl k ↦
          let same = k.1 in
          let after : is_live es i ≡ false = below_none (entry_end place e) (e.index + 1) es next i f.2 (omega arith) in
          let alive : e.live ≡ true = sym (or_off (e.live && true) ∙ and_with e.live) ∙ sym (rw (k.0, after) refl) ∙ h in
          let low : leb i e.index ≡ true = le-leb i e.index (omega arith) in
          rw (k.0, alive, low) (ap (λ (n : ℕ). Some (with_index n e.payload)) same)
      | inr k ↦
          let later : is_live es i ≡ true = sym (and_or_off e.live (is_live es i)) ∙ sym (ap (λ (b : Bool). (e.live && b) || is_live es i) k.0) ∙ h in
          let ih = live_first (entry_end place e) (e.index + 1) i es next f.2 later in
          let high : leb i e.index ≡ false = elim (leb_tells i e.index) [
            | inl le ↦ absurd (let low = le.1 in let none = below_none (entry_end place e) (e.index + 1) es next i f.2 (omega arith) in let bad : true ≡ false = sym later ∙ none in cc)
            | inr other ↦ other.0
          ] in
          rw (k.0, high, and_false e.live) ih
    ]

pub lent : (i : ℕ) (o : Option (List ℕ)) (found : Option (ℕ × List ℕ)) → found ≡ option_map (with_index i) o → o ≡ option_map (λ (x : ℕ × List ℕ). x.1) found
lent i None found e = rw e refl
lent i (Some p) found e = rw e refl
