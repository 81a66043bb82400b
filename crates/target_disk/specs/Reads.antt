-- What reading a disk does.
use Rattle.std.specs.Prelude.{◌≡◌, ◌≤◌, Bool, true, false, IsTrue, Result, Ok, Err}
use Rattle.outside.specs.Disk.{Shown, Stays}
use Rattle.target_disk.specs.declared.read.ReadFault.{ReadFault}
use Rattle.target_disk.specs.declared.read.ReadFault.TheVariants.{Disk, Memory}

-- nothing that a disk holds has changed
pub record Keeps (old new : Shown) : Type 0 where
  pub stays : Stays old new
  pub later : old.faults ≤ new.faults
  pub content : IsTrue old.tells → new.content ≡ old.content
  pub settled : IsTrue old.honest → new.settled ≡ old.settled

-- the failed flag of a disk that worked, after it was read
abbrev pub ReadFlag : {T : Type 0} → Bool → Result T ReadFault → Type 0
ReadFlag now (Ok x) = now ≡ false
ReadFlag now (Err Disk) = now ≡ true
ReadFlag now (Err Memory) = now ≡ false
