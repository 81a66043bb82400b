-- What holds at each exit of a turn, also after want of memory.
use Rattle.std.specs.Prelude.{◌≤◌, ⊤}
use Rattle.outside.specs.Causes.{Rose}
use Rattle.outside.specs.Disk.{Shown, Stays}
use Rattle.target_turns.specs.declared.served.Ran.{Ran}
use Rattle.target_turns.specs.declared.served.Ran.TheVariants as ran

-- the disk is the same one, and its count of faults never falls
pub record Touches (old new : Shown) : Type 0 where
  pub stays : Stays old new
  pub later : old.faults ≤ new.faults

-- a target is stopped only where that count rose
abbrev pub RanCauses : Shown → Shown → Ran → Type 0
RanCauses old new ran.Stands = ⊤
RanCauses old new ran.Stopped = Rose old.faults new.faults
