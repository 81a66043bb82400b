-- The text of a hash: 16 lower-case hexadecimal digits, two a byte, the highest byte first.
use Rattle.std.specs.Prelude.{ℕ, List}
use Rattle.std.specs.List.{flat_map}
use Rattle.std.specs.Int.{w64, to_be_bytes}
use Rattle.fid_space.specs.HexText.{hex_byte}

unfoldable pub hash_text : ℕ → List ℕ
hash_text hash = flat_map hex_byte (to_be_bytes w64 hash)
