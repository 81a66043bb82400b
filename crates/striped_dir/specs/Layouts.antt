-- The layouts that a directory may have, and the one spelling of each: the count of stripes, the target of
-- the first one, two zeros, and the generation in four bytes, the lowest first.
use Rattle.std.specs.Prelude.{◌≡◌, ◌≤◌, ◌==◌, ◌&&◌, ◌||◌, not, nat_lt, if◌then◌else◌, ℕ, List, ◌∷◌, drop, slice_index, Option, Some, None, Result, Ok, Err}
use Rattle.std.specs.Int.{w32, to_le_bytes, from_le_bytes}
use Rattle.tree_model.specs.Keys.{Layout}
use Rattle.striped_dir.specs.declared.layout.Layout.{Layout as Kept}
use Rattle.striped_dir.specs.declared.layout.BadValue.{BadValue}

-- a layout as the definitions of the tree have it
abbrev pub laid : Kept → Layout
laid l = record { count = l.count; start = l.start; generation = l.generation }

-- at most 16 stripes, the first on a target below 16; with no stripe the start is 0
pub record FitsLayout (l : Layout) : Type 0 where
  pub count : l.count ≤ 16
  pub start : l.start ≤ 15
  pub plain : l.count ≡ 0 → l.start ≡ 0
  pub generation : l.generation ≤ 0x0ffffffe

abbrev pub layout_text : Layout → List ℕ
layout_text l = l.count ∷ l.start ∷ 0 ∷ 0 ∷ to_le_bytes w32 l.generation

-- the place of the first byte that can't stand in the spelling of a layout
abbrev pub bad_place : ℕ → ℕ → ℕ → ℕ → ℕ → Option ℕ
bad_place count start third fourth generation =
    if nat_lt 16 count then Some 0
    else (if nat_lt 15 start || ((count == 0) && not (start == 0)) then Some 1
    else (if not (third == 0) then Some 2 else (if not (fourth == 0) then Some 3 else (if nat_lt 0x0ffffffe generation then Some 4 else None))))

abbrev pub unless_bad : Option ℕ → Kept → Result Kept BadValue
unless_bad None l = Ok l
unless_bad (Some place) l = Err (record { place = place })

abbrev pub generation_in : List ℕ → ℕ
generation_in bytes = from_le_bytes w32 (drop 4 bytes)

-- the layout that eight bytes spell, or the first that can't stand
unfoldable pub layout_in : List ℕ → Result Kept BadValue
layout_in bytes =
    unless_bad (bad_place (slice_index bytes 0) (slice_index bytes 1) (slice_index bytes 2) (slice_index bytes 3) (generation_in bytes))
    (record { count = slice_index bytes 0; start = slice_index bytes 1; generation = generation_in bytes })
