-- A store, which contracts see as its disk and the commit that was begun.
use Rattle.std.specs.Prelude.{◌≡◌, ◌⊎◌, ◌+◌, ◌-◌, ◌^◌, min, ℕ, List, ◌++◌, Bool, false, true, IsTrue, Option, Some, None, Result, Ok, Err, ◌<◌, ◌≤◌, take, ⊤}
use Rattle.outside.specs.Disk.{Shown, IsImage, settles}
use Rattle.outside.specs.Causes.{Rose}
use Rattle.chain_blocks.specs.Stored.{stored}
use Rattle.target_disk.specs.Tables.{Saved, Entry, entry, image_most, data_at, opened}
use Rattle.target_disk.specs.Draft.{Begun}
use Rattle.target_disk.specs.declared.store.CommitFault.{CommitFault}
use Rattle.target_disk.specs.declared.store.CommitFault.TheVariants.{Disk, Full}

-- the disk, and the commit that was begun
pub record Stored (D : Type 0) : Type 0 where
  pub disk : D
  pub draft : Option Begun

-- an honest disk that works, with nothing dirty, and what it opens as
pub record IsSettled (disk : Shown) (saved : Saved) : Type 0 where
  pub honest : IsTrue disk.honest
  pub works : disk.failed ≡ false
  pub clean : disk.settled ≡ settles disk.content
  pub opens : opened disk.content ≡ Some saved

-- an honest disk that works, where nothing is dirty of what it opens as: the gate and the tables, and the
-- blocks of the image
pub record Stands (disk : Shown) (saved : Saved) : Type 0 where
  pub honest : IsTrue disk.honest
  pub works : disk.failed ≡ false
  pub found : Entry
  pub named : entry disk.content ≡ Some found
  pub tables : take data_at disk.settled ≡ settles (take data_at disk.content)
  pub blocks : stored disk.settled data_at found.chain ≡ settles (stored disk.content data_at found.chain)
  pub opens : opened disk.content ≡ Some saved

-- the bytes that were put, in the blocks that are full and behind them
abbrev pub HasPut : Shown → Option Begun → List ℕ → Type 0
HasPut disk None bytes = ⊥
HasPut disk (Some begun) bytes = stored disk.content data_at begun.blocks ++ begun.rest ≡ bytes

-- each image opens so
abbrev pub OpensAs : Shown → Saved → Type 0
OpensAs disk saved = (image : List ℕ) → IsImage disk.settled image → opened image ≡ Some saved

-- each image opens as the one or the other
abbrev pub OpensAsEither : Shown → Saved → Saved → Type 0
OpensAsEither disk old new = (image : List ℕ) → IsImage disk.settled image → (opened image ≡ Some old) ⊎ (opened image ≡ Some new)

-- the generation of the commit that follows, which stands still at its last value
abbrev pub following : ℕ → ℕ
following generation = min (generation + 1) (2 ^ 64 - 1)

-- the commit that follows
abbrev pub next : Saved → List ℕ → Saved
next old bytes = record { generation = following old.generation; bytes = bytes }

-- `Disk` only where the count rose, and `Full` exactly where the image is too long
abbrev pub CommitCauses : {T : Type 0} → ℕ → ℕ → ℕ → Result T CommitFault → Type 0
CommitCauses before now size (Ok x) = size ≤ image_most
CommitCauses before now size (Err Disk) = (size ≤ image_most) × Rose before now
CommitCauses before now size (Err (Full len)) = (image_most < size) × (size ≡ len)

abbrev pub FinishCauses : {T : Type 0} → ℕ → ℕ → Result T CommitFault → Type 0
FinishCauses before now (Ok x) = ⊤
FinishCauses before now (Err Disk) = Rose before now
FinishCauses before now (Err (Full len)) = ⊥

-- after a fault no commit is begun
abbrev pub PutLeaves : {T : Type 0} → Result T CommitFault → Option Begun → Type 0
PutLeaves (Ok x) draft = (begun : Begun) × (draft ≡ Some begun)
PutLeaves (Err e) draft = draft ≡ None

-- the failed flags of a disk before and after: a disk that had failed takes no commit
abbrev pub CommitFlags : {T : Type 0} → Bool → Bool → Result T CommitFault → Type 0
CommitFlags before now (Ok x) = (before ≡ false) × (now ≡ false)
CommitFlags before now (Err Disk) = now ≡ true
CommitFlags before now (Err (Full len)) = now ≡ before
