-- What becomes of the disks, whatever is played.
use Rattle.std.specs.Prelude.{◌≡◌, ℕ, List, length, slice_index_or}
use Rattle.outside.specs.Disk.{Shown}
use Rattle.target_turns.specs.Touching.{Touches}
use Rattle.target_turns.specs.Placing.{no_disk}

-- behind the last disk stands none
abbrev pub disk_at : List Shown → ℕ → Shown
disk_at disks i = slice_index_or disks i no_disk

-- each disk is the same one, in its place, and its count of faults never falls
pub record AreKept (old new : List Shown) : Type 0 where
  pub count : length new ≡ length old
  pub each : (i : ℕ) → Touches (disk_at old i) (disk_at new i)
