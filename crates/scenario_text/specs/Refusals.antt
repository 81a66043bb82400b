-- Which lines of a scenario pass a limit, where its lines end, and the texts of refusals.
use Rattle.std.specs.Prelude.{◌≡◌, ◌≢◌, ◌<◌, ◌⊎◌, ℕ, length, List, [], ◌∷◌, ◌++◌, codes}
use Rattle.std.specs.Fmt.{decimal}

-- the line with this number, of which so much came, passes a limit, with so many bytes of the scenario
abbrev pub PassesLimit : ℕ → List ℕ → ℕ → Type 0
PassesLimit number line total = (1000000 < number) ⊎ (16384 < length line) ⊎ (67108864 < total)

abbrev pub refusal : ℕ → List ℕ
refusal number = codes "line " ++ (decimal number ++ codes ": NotYet\n")

abbrev pub no_end : ℕ → List ℕ
no_end number = codes "line " ++ (decimal number ++ codes ": NoEnd\n")

-- In what follows AtEnd says that the input has nothing left.

-- the last line isn't empty, and lacks its line feed
abbrev pub LacksFeed : List ℕ → Type 0
LacksFeed read = (front : List ℕ) × (last : ℕ) × (last ≢ 10) × (read ≡ front ++ last ∷ [])

-- at the end a last line that isn't empty and lacks its line feed counts as if it had it
abbrev pub Closes : Type 0 → List ℕ → List ℕ → Type 0
Closes AtEnd read whole = (whole ≡ read) ⊎ (AtEnd × LacksFeed read × (whole ≡ read ++ 10 ∷ []))

-- a line is whole where its line feed came, or where it isn't empty and the input ended
abbrev pub IsWhole : Type 0 → List ℕ → List ℕ → List ℕ → Type 0
IsWhole AtEnd line feed tail = (feed ≡ 10 ∷ []) ⊎ ((feed ≡ []) × (tail ≡ []) × AtEnd)
