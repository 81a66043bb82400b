-- What opening and formatting a store do.
use Rattle.std.specs.Prelude.{◌≡◌, ◌≤◌, ◌<◌, ℕ, List, false, true, IsTrue, Some, None, length, if◌then◌else◌}
use Rattle.outside.specs.Causes.{Rose}
use Rattle.outside.specs.Disk.{Shown, IsImage, Stays, settles}
use Rattle.target_disk.specs.Tables.{Saved, image_most, is_open, opened}
use Rattle.target_disk.specs.Reads.{Keeps}
use Rattle.target_disk.specs.declared.store.OpenStoreFault.{OpenStoreFault}
use Rattle.target_disk.specs.declared.store.OpenStoreFault.TheVariants as open_fault
use Rattle.target_disk.specs.declared.store.FormatFault.{FormatFault}
use Rattle.target_disk.specs.declared.store.FormatFault.TheVariants as format_fault
use Rattle.target_disk.specs.Store.{IsSettled, OpensAs}

-- where nothing was dirty, each image opens as the disk did
pub record Reopens (old new : Shown) : Type 0 where
  pub stays : Stays old new
  pub later : old.faults ≤ new.faults
  pub same : IsTrue old.honest → old.settled ≡ settles old.content → (image : List ℕ) → IsImage new.settled image → opened image ≡ opened old.content

-- the store that a disk opens as, and its image
pub record Opens (disk store : Shown) (image : List ℕ) : Type 0 where
  pub reopens : Reopens disk store
  pub works : IsTrue disk.honest → store.failed ≡ false
  pub shut : IsTrue disk.honest → is_open disk.content ≡ false → Keeps disk store
  pub opens : IsTrue disk.tells → (s : Saved) × (opened disk.content ≡ Some s) × (s.bytes ≡ image)

-- a disk with nothing dirty stays settled
abbrev pub StaysSettled : Shown → Shown → Type 0
StaysSettled disk store = (s : Saved) → IsTrue disk.honest → disk.settled ≡ settles disk.content → opened disk.content ≡ Some s → IsSettled store s

-- each answer other than Ok, with its cause and the disk that it gives back
abbrev pub FailsToOpen : {D : Type 0} → (D → Shown) → Shown → OpenStoreFault D → Type 0
FailsToOpen shown old (open_fault.Disk disk) = Reopens old (shown disk) × Rose old.faults (shown disk).faults × (IsTrue old.honest → (shown disk).failed ≡ true)
FailsToOpen shown old (open_fault.Damaged disk gates) = Keeps old (shown disk) × (IsTrue old.honest → (shown disk).failed ≡ false) × (IsTrue old.tells → (opened old.content ≡ None) × (gates ≡ (if is_open old.content then 1 else 0)))
FailsToOpen shown old (open_fault.Memory disk) = Keeps old (shown disk) × (IsTrue old.honest → old.failed ≡ false → (shown disk).failed ≡ false)

-- an honest disk with nothing dirty, which opens as the image, as each of its images does
pub record Formats (disk store : Shown) (image : List ℕ) : Type 0 where
  pub stays : Stays disk store
  pub later : disk.faults ≤ store.faults
  pub fits : length image ≤ image_most
  pub settled : IsTrue disk.honest → IsSettled store (record { generation = 1; bytes = image })
  pub each : IsTrue disk.honest → OpensAs store (record { generation = 1; bytes = image })

-- each answer other than Ok, with its cause and the disk that it gives back
abbrev pub FailsToFormat : {D : Type 0} → (D → Shown) → D → ℕ → FormatFault D → Type 0
FailsToFormat shown old size (format_fault.Disk disk) = Stays (shown old) (shown disk) × ((shown old).faults ≤ (shown disk).faults) × Rose (shown old).faults (shown disk).faults × (size ≤ image_most) × (IsTrue (shown old).honest → (shown disk).failed ≡ true)
FailsToFormat shown old size (format_fault.Full disk len) = (disk ≡ old) × (image_most < size) × (size ≡ len)
FailsToFormat shown old size (format_fault.Memory disk) = (disk ≡ old) × (size ≤ image_most)
