-- The cells of a disk in memory.
use Rattle.std.specs.Prelude.{◌≡◌, ◌<◌, ◌≤◌, ◌/◌, ◌%◌, ◌^◌, ◌==◌, ◌||◌, not, ℕ, List, Bool, false, true, if◌then◌else◌, Option, Some, None, length, replicate, slice_index_or}
use Rattle.std.specs.Prelude.{[], ◌∷◌, ◌+◌, slice_index}
use Rattle.outside.specs.Disk.{ChangesOnly}

-- what stands at one place
pub record Cell : Type 0 where
  pub content : ℕ
  pub settled : ℕ
  pub dirty : Bool

-- cells by their contents, their settled bytes and whether they are dirty
abbrev pub zipped : List ℕ → List ℕ → List Bool → List Cell
zipped [] settled dirty = []
zipped (c ∷ content) [] dirty = []
zipped (c ∷ content) (s ∷ settled) [] = []
zipped (c ∷ content) (s ∷ settled) (d ∷ dirty) = record { content = c; settled = s; dirty = d } ∷ zipped content settled dirty

-- a page's bytes, of which none below one place or from another on is dirty
pub record FitsPage (content settled : List ℕ) (dirty : List Bool) (low high : ℕ) : Type 0 where
  pub content_size : length content ≡ 65536
  pub settled_size : length settled ≡ 65536
  pub dirty_size : length dirty ≡ 65536
  pub order : low ≤ high
  pub inside : high ≤ 65536
  pub below : (k : ℕ) → k < low → (slice_index_or dirty k false ≡ false) × (slice_index_or content k 0 ≡ slice_index_or settled k 0)
  pub above : (k : ℕ) → high ≤ k → (slice_index_or dirty k false ≡ false) × (slice_index_or content k 0 ≡ slice_index_or settled k 0)

abbrev pub page_len : ℕ
page_len = 65536

abbrev pub blank : Cell
blank = record { content = 0; settled = 0; dirty = false }

-- cells that were never written. The list isn't computed
unfoldable pub blanks : ℕ → List Cell
blanks n = replicate n blank

-- a byte written over a cell
abbrev pub written : Cell → ℕ → Cell
written cell byte = record { content = byte; settled = cell.settled; dirty = true }

abbrev pub content_of : Cell → ℕ
content_of cell = cell.content

-- the settled byte, under a dirty one too
abbrev pub settled_of : Cell → ℕ
settled_of cell = cell.settled

-- what a stop leaves
abbrev pub kept_of : Cell → Option ℕ
kept_of cell = if cell.dirty then None else Some cell.settled

-- a cell that isn't dirty reads as it is settled
abbrev pub FitsCell : Cell → Type 0
FitsCell cell = cell.dirty ≡ false → cell.content ≡ cell.settled

-- a cell after a sync
abbrev pub settle_cell : Cell → Cell
settle_cell cell = record { content = cell.content; settled = cell.content; dirty = false }

-- the bit that a choice has for a place, which says whether a dirty byte stays there
abbrev pub keeps : ℕ → ℕ → Bool
keeps choice at = choice / 2 ^ (at % 8) % 2 == 1

-- the byte that a power cycle leaves: the written one where it was settled or the choice keeps it
abbrev pub chosen : Bool → Cell → ℕ
chosen stays cell = if not cell.dirty || stays then cell.content else cell.settled

-- a cell after a power cycle
abbrev pub cycle_cell : Bool → Cell → Cell
cycle_cell stays cell = record { content = chosen stays cell; settled = chosen stays cell; dirty = false }

-- cells after a power cycle
pub record Cycled (choice : ℕ) (old new : List Cell) : Type 0 where
  pub size : length new ≡ length old
  pub each : (k : ℕ) → k < length old → slice_index_or new k blank ≡ cycle_cell (keeps choice k) (slice_index_or old k blank)

-- bytes written over cells
pub record Overwrites (at : ℕ) (bytes : List ℕ) (old new : List Cell) : Type 0 where
  pub changes : ChangesOnly at (length bytes) old new
  pub inside : (k : ℕ) → k < length bytes → slice_index_or new (at + k) blank ≡ written (slice_index_or old (at + k) blank) (slice_index bytes k)
