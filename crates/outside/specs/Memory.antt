-- What contracts see of a disk in memory, besides what every disk shows, and what its calls do.
use Rattle.std.specs.Prelude.{◌≡◌, ◌<◌, ◌≤◌, ◌+◌, ◌/◌, ◌||◌, ℕ, List, Bool, true, false, IsTrue, if◌then◌else◌, Option, Some, None, length, map, slice_index_or, is_some, Result, is_err}
use Rattle.outside.specs.Disk.{Fuse, Shown, put, disk_len}
use Rattle.outside.specs.Tally.{Account, account_of, burns, called, burnt, refusing}
use Rattle.outside.specs.Cells.{content_of, kept_of, settled_of, keeps, page_len}
use Rattle.outside.specs.Pages.{cells}
use Rattle.outside.specs.declared.memory.MemoryDisk.{MemoryDisk}

-- what it keeps of its calls
abbrev pub account : MemoryDisk → Account
account d = account_of d.tally

-- what every disk shows
abbrev pub seen : MemoryDisk → Shown
seen d = record { tells = true; honest = true; content = map content_of (cells d.pages.items); settled = map kept_of (cells d.pages.items); failed = d.tally.failed; faults = d.tally.faults; name = 0 }

-- the fuse and the choice
abbrev pub fuse_of : MemoryDisk → Option Fuse
fuse_of d = Some (record { left = d.tally.left; choice = d.tally.choice })

-- the settled bytes, those under the dirty ranges too
abbrev pub under : MemoryDisk → List ℕ
under d = map settled_of (cells d.pages.items)

-- whether the page of 65,536 bytes that has a place was made
abbrev pub has_page : MemoryDisk → ℕ → Bool
has_page d k = is_some (slice_index_or d.pages.items (k / page_len) None)

-- no page is made or lost
abbrev pub SamePages : MemoryDisk → MemoryDisk → Type 0
SamePages old new = (k : ℕ) → has_page new k ≡ has_page old k

-- no page is lost
abbrev pub KeepsPages : MemoryDisk → MemoryDisk → Type 0
KeepsPages old new = (k : ℕ) → IsTrue (has_page old k) → IsTrue (has_page new k)

-- no page is made but those that have a place of a range
abbrev pub MakesOnly : ℕ → ℕ → MemoryDisk → MemoryDisk → Type 0
MakesOnly at n old new = (k : ℕ) → ((j : ℕ) → at ≤ j → j < at + n → j / page_len ≡ k / page_len → ⊥) → has_page new k ≡ has_page old k

-- no byte changes, and no page is made
pub record SameBytes (old new : MemoryDisk) : Type 0 where
  pub content : (seen new).content ≡ (seen old).content
  pub settled : (seen new).settled ≡ (seen old).settled
  pub under : under new ≡ under old
  pub pages : SamePages old new

-- a write after a fault
pub record IsStopped {T E : Type 0} (result : Result T E) (old new : MemoryDisk) : Type 0 where
  pub stood : (account old).failed ≡ true
  pub failed : is_err result ≡ true
  pub same : SameBytes old new
  pub counted : account new ≡ burnt (called true (account old))

-- a write with no memory for a page that was never written
pub record IsRefused {T E : Type 0} (at n : ℕ) (result : Result T E) (old new : MemoryDisk) : Type 0 where
  pub stood : (account old).failed ≡ false
  pub failed : is_err result ≡ true
  pub content : (seen new).content ≡ (seen old).content
  pub settled : (seen new).settled ≡ (seen old).settled
  pub under : under new ≡ under old
  pub pages : KeepsPages old new
  pub only : MakesOnly at n old new
  pub missing : ((k : ℕ) → at ≤ k → k < at + n → IsTrue (has_page old k)) → ⊥
  pub counted : account new ≡ refusing (burnt (called true (account old)))

-- a write that put its bytes, and failed or not
pub record IsPut {T E : Type 0} (at : ℕ) (bytes : List ℕ) (result : Result T E) (old new : MemoryDisk) : Type 0 where
  pub stood : (account old).failed ≡ false
  pub exact : is_err result ≡ burns (account old)
  pub content : (seen new).content ≡ put (seen old).content at bytes
  pub dirty : (k : ℕ) → at ≤ k → k < at + length bytes → slice_index_or (seen new).settled k None ≡ None
  pub under : under new ≡ under old
  pub pages : KeepsPages old new
  pub only : MakesOnly at (length bytes) old new
  pub made : (k : ℕ) → at ≤ k → k < at + length bytes → IsTrue (has_page new k)
  pub counted : account new ≡ burnt (called (is_err result) (account old))

-- what a power cycle leaves: the byte as it read where it was settled or its bit of the choice is 1, else the settled byte
abbrev pub Chooses : MemoryDisk → MemoryDisk → Type 0
Chooses old new = (k : ℕ) → k < disk_len → slice_index_or (seen new).content k 0 ≡ (if is_some (slice_index_or (seen old).settled k None) || keeps (account old).choice k then slice_index_or (seen old).content k 0 else slice_index_or (under old) k 0)
