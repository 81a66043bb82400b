-- Numbers in bytes, the lowest byte first, zeros, and the padding up to a multiple of 8.
use Rattle.std.specs.Prelude.{ℕ, zero, suc, ◌-◌, ◌%◌, ◌<◌, List, [], ◌∷◌, Option, Some, None, get_or, replicate}
use Rattle.std.specs.Option.{option_map}
use Rattle.std.specs.Int.{Width, from_le_bytes, to_le_bytes}

-- the bytes of a number of this width
unfoldable pub word : Width → ℕ → List ℕ
word w n = to_le_bytes w n

-- the number that the bytes of this width are
unfoldable pub worth : Width → List ℕ → ℕ
worth w bytes = from_le_bytes w bytes

-- each is the value of a byte
abbrev pub IsBytes : List ℕ → Type 0
IsBytes bytes = (i : ℕ) → get_or bytes i 0 < 256

unfoldable pub zeros : ℕ → List ℕ
zeros n = replicate n 0

-- what n lacks to a multiple of 8
unfoldable pub padding : ℕ → ℕ
padding n = (8 - n % 8) % 8

-- the place of the first byte that isn't 0
abbrev pub first_set : List ℕ → Option ℕ
first_set [] = None
first_set (zero ∷ bytes) = option_map (λ i. suc i) (first_set bytes)
first_set (suc b ∷ bytes) = Some 0
