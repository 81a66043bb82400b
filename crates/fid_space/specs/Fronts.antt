-- What a call leaves where memory ran out while it added a text.
use Rattle.std.specs.Prelude.{◌≡◌, List, ◌++◌}

-- the new list is the old one and a front of the text
abbrev pub IsFront : {A : Type 0} → List A → List A → List A → Type 0
IsFront {A} old new text = (front : List A) × (rest : List A) × (new ≡ old ++ front) × (front ++ rest ≡ text)
