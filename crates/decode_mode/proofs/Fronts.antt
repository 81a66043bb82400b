-- Bytes that begin with a spelling are shown by one text.
use Rattle.std.proofs.Common.{◌≡◌, ℕ, List, ◌++◌, length, take, drop, refl, sym, ap, subst, ◌∙◌}
use Rattle.std.proofs.lemmas.List.{take_at, drop_at}
use Rattle.decode_mode.specs.Lines.{rest_line}
use Rattle.decode_mode.specs.Answering.{ShowsFront}

module _ {V : Type 0} (spells : V → List ℕ → Type 0) (text_of : V → List ℕ)
    (one_value : (v w : V) (a : List ℕ) → spells v a → spells w a → v ≡ w) where
  pub fronts_alike : (bytes s t : List ℕ) → (x : ShowsFront spells text_of bytes s) (y : ShowsFront spells text_of bytes t) → length x.front ≡ length y.front → s ≡ t
  fronts_alike bytes s t x y e =
      let n = length y.front in
      let all : x.front ++ x.rest ≡ y.front ++ y.rest = sym x.parts ∙ y.parts in
      let front : x.front ≡ y.front = sym (take_at x.front x.rest n e) ∙ ap (take n) all ∙ take_at y.front y.rest n refl in
      let rest : x.rest ≡ y.rest = sym (drop_at x.front x.rest n e) ∙ ap (drop n) all ∙ drop_at y.front y.rest n refl in
      let value : x.value ≡ y.value = one_value x.value y.value y.front (subst (spells x.value) front x.spelled) y.spelled in
      x.says ∙ ap (λ (v : V). text_of v ++ rest_line (length x.rest)) value ∙ ap (λ (r : List ℕ). text_of y.value ++ rest_line (length r)) rest ∙ sym y.says
