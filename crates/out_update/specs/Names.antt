-- Where bytes of an allowed length can't be a name: no NUL, no `/`, and neither `.` nor `..`.
use Rattle.std.specs.Prelude.{ℕ, suc, ◌==◌, ◌&&◌, ◌||◌, Bool, false, if◌then◌else◌, List, [], ◌∷◌, Option, Some, None}
use Rattle.std.specs.Option.{option_map}

-- the place of the first byte that a name can't have
abbrev pub first_bad : List ℕ → Option ℕ
first_bad [] = None
first_bad (b ∷ bytes) = if (b == 0) || (b == 0x2f) then Some 0 else option_map (λ i. suc i) (first_bad bytes)

-- `.` or `..`
abbrev pub is_dots : List ℕ → Bool
is_dots (b ∷ []) = b == 0x2e
is_dots (b ∷ c ∷ []) = (b == 0x2e) && (c == 0x2e)
is_dots _ = false

abbrev pub name_fault : List ℕ → Option ℕ
name_fault bytes = if is_dots bytes then Some 0 else first_bad bytes
