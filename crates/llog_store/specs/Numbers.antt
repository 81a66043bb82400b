-- Numbers of 4 bytes, the lowest byte first, and zeros.
use Rattle.std.specs.Prelude.{ℕ, zero, suc, ◌<◌, ◌+◌, ◌*◌, ◌/◌, List, [], ◌∷◌, Option, Some, None, get_or, replicate}
use Rattle.std.specs.Option.{option_map}
use Rattle.std.specs.Int.{w32, from_le_bytes, to_le_bytes}

unfoldable pub word : ℕ → List ℕ
word n = to_le_bytes w32 n

unfoldable pub worth : List ℕ → ℕ
worth bytes = from_le_bytes w32 bytes

unfoldable pub zeros : ℕ → List ℕ
zeros n = replicate n 0

-- rounded up to a multiple of 8
unfoldable pub pad8 : ℕ → ℕ
pad8 n = (n + 7) / 8 * 8

-- each is the value of a byte
abbrev pub IsBytes : List ℕ → Type 0
IsBytes bytes = (i : ℕ) → get_or bytes i 0 < 256

-- the index of the first byte that isn't 0
abbrev pub first_set : List ℕ → Option ℕ
first_set [] = None
first_set (zero ∷ bytes) = option_map (λ i. suc i) (first_set bytes)
first_set (suc b ∷ bytes) = Some 0
