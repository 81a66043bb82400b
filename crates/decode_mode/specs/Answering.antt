-- What is written of the bytes of an input, and how the run ends.
use Rattle.std.specs.Prelude.{◌≡◌, ◌<◌, ◌≤◌, ◌⊎◌, ℕ, Bool, true, false, List, [], ◌++◌, length, codes}
use Rattle.outside.specs.declared.status.Status.{Status}
use Rattle.outside.specs.declared.status.Status.TheVariants as status
use Rattle.byte_grammar.specs.Numbers.{IsBytes}
use Rattle.decode_mode.specs.Lines.{rest_line, place_line}

-- the most bytes that are decoded
abbrev pub most : ℕ
most = 67108864

-- The text shows the value that a front of the bytes spells, and how many bytes are left behind it.
pub record ShowsFront {V : Type 0} (spells : V → List ℕ → Type 0) (text_of : V → List ℕ) (bytes text : List ℕ) : Type 0 where
  pub value : V
  pub front : List ℕ
  pub rest : List ℕ
  pub parts : bytes ≡ front ++ rest
  pub spelled : spells value front
  pub says : text ≡ text_of value ++ rest_line (length rest)

-- Of each format it is known which text shows the value that bytes hold, and which refuses bytes.
abbrev pub Says : (List ℕ → List ℕ → Type 0) → (List ℕ → List ℕ → Type 0) → Bool → List ℕ → List ℕ → Type 0
Says shows refuses true bytes text = shows bytes text
Says shows refuses false bytes text = refuses bytes text

-- the whole input was read, and is shown
abbrev pub ShowsInput : Type 0 → (List ℕ → List ℕ → Type 0) → List ℕ → List ℕ → Type 0
ShowsInput Ended shows read text = Ended × (length read ≤ most) × shows read text

-- the whole input was read, and is refused; or more was read than is decoded
abbrev pub RefusesInput : Type 0 → (List ℕ → List ℕ → Type 0) → List ℕ → List ℕ → Type 0
RefusesInput Ended refuses read text =
    (Ended × (length read ≤ most) × refuses read text) ⊎ ((most < length read) × (text ≡ place_line most (codes "TooMuch")))

-- What was written of the bytes that were read, by the end of the run. Ended says that the input is at its
-- end. Where the output failed it is a front of the text.
abbrev pub Answers : Type 0 → (List ℕ → List ℕ → Type 0) → (List ℕ → List ℕ → Type 0) → Status → List ℕ → List ℕ → Type 0
Answers Ended shows refuses status.Done read written = ShowsInput Ended shows read written
Answers Ended shows refuses status.Refused read written = RefusesInput Ended refuses read written
Answers Ended shows refuses status.Memory read written = written ≡ []
Answers Ended shows refuses status.Source read written = written ≡ []
Answers Ended shows refuses status.Sink read written =
    (more : List ℕ) × (ShowsInput Ended shows read (written ++ more) ⊎ RefusesInput Ended refuses read (written ++ more))

-- Each list of bytes has exactly one text, which shows its value or refuses it.
pub record HasOneAnswer (shows refuses : List ℕ → List ℕ → Type 0) : Type 0 where
  pub some : (bytes : List ℕ) → IsBytes bytes → (text : List ℕ) × (shows bytes text ⊎ refuses bytes text)
  pub shown_alike : (bytes a b : List ℕ) → shows bytes a → shows bytes b → a ≡ b
  pub refused_alike : (bytes a b : List ℕ) → refuses bytes a → refuses bytes b → a ≡ b
  pub never_both : (bytes a b : List ℕ) → shows bytes a → refuses bytes b → ⊥
