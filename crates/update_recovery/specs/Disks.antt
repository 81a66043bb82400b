-- What a step of a recovery does to the disk of a target.
use Rattle.std.specs.Prelude.{◌≤◌, ℕ, Result, Err, ⊤}
use Rattle.outside.specs.Causes.{Rose}
use Rattle.outside.specs.Disk.{Shown, Stays}
use Rattle.target_disk.specs.Store.{following}
use Rattle.target_state.specs.State.{TargetState}
use Rattle.target_node.specs.Node.{StandsAs, IsSettledAs, OpensAsEither}
use Rattle.target_node.specs.declared.fault.NodeFault.{NodeFault}
use Rattle.target_node.specs.declared.fault.NodeFault.TheVariants as fault

-- a state was committed: where one stood before, this one is settled now
pub record Commits (old new : Shown) (s : TargetState) : Type 0 where
  pub stays : Stays old new
  pub later : old.faults ≤ new.faults
  pub done : (t : TargetState) (g : ℕ) → StandsAs old g t → IsSettledAs new (following g) s

-- a call of the disk failed in that: where a state stood before, each image opens as it or as this one
pub record Breaks (old new : Shown) (s : TargetState) : Type 0 where
  pub stays : Stays old new
  pub later : old.faults ≤ new.faults
  pub rose : Rose old.faults new.faults
  pub any_moment : (t : TargetState) (g : ℕ) → StandsAs old g t → OpensAsEither new g t s

-- where a call of the disk failed
abbrev pub WhereDisk : {T : Type 0} → Result T NodeFault → Type 0 → Type 0
WhereDisk (Err fault.Disk) is = is
WhereDisk _ is = ⊤

-- where memory was missing
abbrev pub WhereMemory : {T : Type 0} → Result T NodeFault → Type 0 → Type 0
WhereMemory (Err fault.Memory) is = is
WhereMemory _ is = ⊤
