-- Numbers as `byteorder` reads them are those of the standard library.
use Rattle.std.proofs.Common.{◌≡◌, ℕ, List, arith}
use Rattle.std.specs.Int.{w16, w32, w64}
use Rattle.byteorder.specs.Endian.{little_number}
use Rattle.byte_grammar.specs.Numbers.{worth}

pub little16 : (bytes : List ℕ) → little_number 2 bytes ≡ worth w16 bytes
unfolding worth
little16 bytes = omega arith

pub little32 : (bytes : List ℕ) → little_number 4 bytes ≡ worth w32 bytes
unfolding worth
little32 bytes = omega arith

pub little64 : (bytes : List ℕ) → little_number 8 bytes ≡ worth w64 bytes
unfolding worth
little64 bytes = omega arith
