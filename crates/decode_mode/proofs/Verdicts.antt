-- What a verdict on bytes says of their answer.
use Rattle.std.proofs.Common.{◌≡◌, ◌≤◌, ◌⊎◌, ℕ, List, ◌++◌, codes, length, take, drop, refl, sym, subst, ◌∙◌, inl, inr}
use Rattle.std.proofs.lemmas.List.{take-append-drop}
use Rattle.byte_grammar.specs.declared.verdict.Verdict.{Verdict}
use Rattle.byte_grammar.specs.declared.verdict.Verdict.TheVariants.{More, Done, Refused}
use Rattle.decode_mode.specs.Lines.{rest_line, place_line}
use Rattle.decode_mode.specs.Refusing.{RefusesBy, reason_word}
use Rattle.decode_mode.specs.Answering.{ShowsFront}

pub done_is : (m n : ℕ) → Done m ≡ Done n → m ≡ n
done_is m n e = cc

pub refused_alike : (v : Verdict) (len : ℕ) (s t : List ℕ) → RefusesBy v len s → RefusesBy v len t → s ≡ t
refused_alike More len s t x y = x ∙ sym y
refused_alike (Refused r) len s t x y = x ∙ sym y
refused_alike (Done k) len s t x y = absurd x

pub never_done : (v : Verdict) (k len : ℕ) (t : List ℕ) → v ≡ Done k → RefusesBy v len t → ⊥
never_done v k len t e x = subst (λ (v : Verdict). RefusesBy v len t) e x

module _ {V : Type 0} (spells : V → List ℕ → Type 0) (text_of : V → List ℕ) (judged : List ℕ → Verdict) where
  -- the value that ends behind so many of the bytes
  pub shows_taken : (bytes : List ℕ) (v : V) (k : ℕ) → spells v (take k bytes) → ShowsFront spells text_of bytes (text_of v ++ rest_line (length (drop k bytes)))
  shows_taken bytes v k s = record { value = v; front = take k bytes; rest = drop k bytes; parts = sym (take-append-drop k bytes); spelled = s; says = refl }

  pub some_answer : (bytes : List ℕ) (v : Verdict) → judged bytes ≡ v
      → ((k : ℕ) → v ≡ Done k → (x : V) × spells x (take k bytes) × (k ≤ length bytes))
      → (text : List ℕ) × (ShowsFront spells text_of bytes text ⊎ RefusesBy (judged bytes) (length bytes) text)
  some_answer bytes More e done =
      let text = place_line (length bytes) (codes "Truncated") in
      (text, inr (subst (λ (v : Verdict). RefusesBy v (length bytes) text) (sym e) refl))
  some_answer bytes (Refused r) e done =
      let text = place_line r.place (reason_word r.reason) in
      (text, inr (subst (λ (v : Verdict). RefusesBy v (length bytes) text) (sym e) refl))
  some_answer bytes (Done k) e done =
      let d = done k refl in
      (text_of d.0 ++ rest_line (length (drop k bytes)), inl (shows_taken bytes d.0 k d.1))
