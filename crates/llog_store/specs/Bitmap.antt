-- Bits in bytes: bit i modulo 8 of byte i / 8 stands for the index i.
use Rattle.std.specs.Prelude.{ℕ, zero, suc, ◌+◌, ◌*◌, ◌/◌, ◌%◌, ◌==◌, Bool, List, [], ◌∷◌, Option, Some, None, get_or, if◌then◌else◌}
use Rattle.std.specs.Int.{bit_at}
use Rattle.std.specs.Int.RustNames.{count_ones}
use Rattle.std.specs.Option.{option_map}
use lib.Lanes.{mask_l}

-- what the test says from an index on, of so many indexes
unfoldable pub flags : (ℕ → Bool) → ℕ → ℕ → List Bool
flags marked from zero = []
flags marked from (suc n) = marked from ∷ flags marked (from + 1) n

-- the byte of 8 indexes: the first of them is its lowest bit
unfoldable pub byte_of : (ℕ → Bool) → ℕ → ℕ
byte_of marked k = mask_l (flags marked (8 * k) 8)

-- n bytes, from byte k on
unfoldable pub bytes_of : (ℕ → Bool) → ℕ → ℕ → List ℕ
bytes_of marked k zero = []
bytes_of marked k (suc n) = byte_of marked k ∷ bytes_of marked (k + 1) n

-- the bitmap of all indexes
abbrev pub bitmap : (ℕ → Bool) → List ℕ
bitmap marked = bytes_of marked 0 32000

-- whether the bit of an index is set
unfoldable pub bit_of : List ℕ → ℕ → Bool
bit_of bits i = bit_at (get_or bits (i / 8) 0) (i % 8) == 1

-- how many bits are set
unfoldable pub set_bits : List ℕ → ℕ
set_bits [] = 0
set_bits (b ∷ bits) = count_ones b + set_bits bits

-- the first place where two lists of one length differ
abbrev pub first_other : List ℕ → List ℕ → Option ℕ
first_other [] others = None
first_other (b ∷ bits) [] = None
first_other (b ∷ bits) (c ∷ others) = if b == c then option_map (λ i. suc i) (first_other bits others) else Some 0
