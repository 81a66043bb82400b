-- What putting pieces of an image does to a disk.
use Rattle.std.specs.Prelude.{◌≡◌, ◌+◌, ◌≤◌, ℕ, List, ◌++◌, true, IsTrue, IsSome, Option, Result, Ok, Err, length}
use Rattle.outside.specs.Causes.{Rose}
use Rattle.outside.specs.Disk.{Shown, Stays}
use Rattle.target_disk.specs.Tables.{Saved}
use Rattle.target_disk.specs.Draft.{Begun, put_len}
use Rattle.target_disk.specs.Store.{Stands, HasPut, OpensAs}

-- a text stands behind what was put before
pub record Puts (text : List ℕ) (before now : Shown) (old new : Option Begun) : Type 0 where
  pub stays : Stays before now
  pub later : before.faults ≤ now.faults
  pub flag : IsTrue before.honest → now.failed ≡ before.failed
  pub begun : IsSome new
  pub grows : put_len new ≡ put_len old + length text
  pub stands : (s : Saved) → Stands before s → Stands now s
  pub puts : (bytes : List ℕ) → IsTrue before.honest → HasPut before old bytes → HasPut now new (bytes ++ text)

-- a call of the disk failed, which opens as it did
pub record Breaks (before now : Shown) : Type 0 where
  pub stays : Stays before now
  pub later : before.faults ≤ now.faults
  pub rose : Rose before.faults now.faults
  pub flag : IsTrue before.honest → now.failed ≡ true
  pub opens : (s : Saved) → Stands before s → OpensAs now s

abbrev pub Pours : {T E : Type 0} → Result T E → List ℕ → Shown → Shown → Option Begun → Option Begun → Type 0
Pours (Ok x) text before now old new = Puts text before now old new
Pours (Err e) text before now old new = Breaks before now
