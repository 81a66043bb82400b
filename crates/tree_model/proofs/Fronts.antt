-- A text that is added part by part, and what stands there where memory runs out.
use Rattle.std.proofs.Common.{◌≡◌, ℕ, List, [], ◌++◌, refl, sym, ap, ◌∙◌, append_assoc}
use Rattle.std.specs.Prelude.{Result, Ok, Err, OnErr}
use Rattle.std.proofs.lemmas.List.{append-nil}
use Rattle.fid_space.specs.Fronts.{IsFront}

-- a front of the text stands behind the old items, and the rest is still to be added
abbrev pub SoFar : List ℕ → List ℕ → List ℕ → List ℕ → Type 0
SoFar old now rest text = (front : List ℕ) × (now ≡ old ++ front) × (front ++ rest ≡ text)

pub begun : (old text : List ℕ) → SoFar old old text text
begun old text = ([], sym (append-nil old), refl)

pub more : (old now new part rest text : List ℕ) → SoFar old now (part ++ rest) text → new ≡ now ++ part → SoFar old new rest text
more old now new part rest text s added =
    (s.0 ++ part, added ∙ ap (λ (l : List ℕ). l ++ part) s.1 ∙ append_assoc old s.0 part, append_assoc s.0 part rest ∙ s.2)

pub ended : (old now text : List ℕ) → SoFar old now [] text → now ≡ old ++ text
ended old now text s = s.1 ∙ ap (λ (l : List ℕ). old ++ l) (sym (append-nil s.0) ∙ s.2)

-- the last part was added
pub last : (old now new part text : List ℕ) → SoFar old now part text → new ≡ now ++ part → new ≡ old ++ text
last old now new part text s added = added ∙ ap (λ (l : List ℕ). l ++ part) s.1 ∙ append_assoc old s.0 part ∙ ap (λ (l : List ℕ). old ++ l) s.2

-- nothing was added of the next part
pub stopped : (old now new rest text : List ℕ) → SoFar old now rest text → new ≡ now → IsFront old new text
stopped old now new rest text s same = (s.0, rest, same ∙ s.1, s.2)

-- a front of the next part was added
pub stopped_in : (old now new part rest text : List ℕ) → SoFar old now (part ++ rest) text → IsFront now new part → IsFront old new text
stopped_in old now new part rest text s f = (
  s.0 ++ f.0,
  f.1 ++ rest,
  f.2 ∙ ap (λ (l : List ℕ). l ++ f.0) s.1 ∙ append_assoc old s.0 f.0,
  append_assoc s.0 f.0 (f.1 ++ rest) ∙ ap (λ (l : List ℕ). s.0 ++ l) (sym (append_assoc f.0 f.1 rest) ∙ ap (λ (l : List ℕ). l ++ rest) f.3) ∙ s.2,
)

-- what holds anyway holds of an error
pub anyway : {T E P : Type 0} (r : Result T E) → P → OnErr r P
anyway (Ok x) p = tt
anyway (Err e) p = p
