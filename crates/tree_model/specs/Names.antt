-- What may name an entry, and how a name is spelled in a text.
use Rattle.std.specs.Prelude.{◌≢◌, ℕ, ◌≤◌, ◌<◌, ◌&&◌, ◌==◌, Bool, not, nat_le, List, [], ◌∷◌, length, codes, if◌then◌else◌}
use Rattle.std.specs.List.{flat_map, AllByRecursion}
use Rattle.fid_space.specs.HexText.{hex_byte}

abbrev pub AreBytes : List ℕ → Type 0
AreBytes n = AllByRecursion (λ b. b < 256) n

-- 1 to 255 bytes without NUL and `/`, and neither `.` nor `..`
abbrev pub IsName : List ℕ → Type 0
IsName n =
    (1 ≤ length n) × (length n ≤ 255) × AreBytes n × AllByRecursion (λ b. (b ≢ 0) × (b ≢ 0x2f)) n × (n ≢ codes ".") × (n ≢ codes "..")

-- a byte that stands for itself in a spelled name: 0x21 to 0x7e, but for `%`
abbrev pub is_plain : ℕ → Bool
is_plain b = nat_le 0x21 b && nat_le b 0x7e && not (b == 0x25)

-- a byte of a name, as it is spelled
abbrev pub name_byte : ℕ → List ℕ
name_byte b = if is_plain b then b ∷ [] else 0x25 ∷ hex_byte b

abbrev pub name_word : List ℕ → List ℕ
name_word name = flat_map name_byte name
