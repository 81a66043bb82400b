-- A target over its disk.
use Rattle.std.specs.Prelude.{◌≡◌, ◌≤◌, ℕ, true, IsTrue, Result, Ok, Err, ⊤}
use Rattle.outside.specs.Causes.{Rose}
use Rattle.outside.specs.Disk.{Shown, Stays}
use Rattle.target_disk.specs.Tables.{Saved}
use Rattle.target_disk.specs.Store as store
use Rattle.target_disk.specs.Store.{IsSettled, Stands, following}
use Rattle.target_state.specs.State.{TargetState}
use Rattle.target_state.specs.Image.{state_text}
use Rattle.target_node.specs.declared.fault.NodeFault.{NodeFault}
use Rattle.target_node.specs.declared.fault.NodeFault.TheVariants as fault
use Rattle.target_node.specs.declared.fault.NodeDown.{NodeDown}
use Rattle.target_node.specs.declared.fault.NodeDown.TheVariants as down

-- what contracts see of a node
pub record NodeState (D : Type 0) : Type 0 where
  pub state : TargetState
  pub disk : D

-- the image of a state, as a commit of a generation
abbrev pub saved : ℕ → TargetState → Saved
saved generation s = record { generation = generation; bytes = state_text s }

-- an honest disk that works, with nothing dirty, on which this state is committed
abbrev pub IsSettledAs : Shown → ℕ → TargetState → Type 0
IsSettledAs disk generation s = IsSettled disk (saved generation s)

-- the same, where nothing is dirty of what the disk opens as
abbrev pub StandsAs : Shown → ℕ → TargetState → Type 0
StandsAs disk generation s = Stands disk (saved generation s)

-- each image opens as the one state, or as the next
abbrev pub OpensAsEither : Shown → ℕ → TargetState → TargetState → Type 0
OpensAsEither disk generation old new = store.OpensAsEither disk (saved generation old) (saved (following generation) new)

-- each answer other than Ok has its cause
abbrev pub CommitCauses : {T : Type 0} → ℕ → ℕ → Result T NodeFault → Type 0
CommitCauses before now (Ok x) = ⊤
CommitCauses before now (Err fault.Disk) = Rose before now
CommitCauses before now (Err fault.Memory) = now ≡ before

-- a call of the disk alone fails
abbrev pub DiskCauses : {T : Type 0} → ℕ → ℕ → Result T NodeFault → Type 0
DiskCauses before now (Ok x) = ⊤
DiskCauses before now (Err fault.Disk) = Rose before now
DiskCauses before now (Err fault.Memory) = ⊥

-- want of memory changes nothing
abbrev pub LeavesAll : {T V : Type 0} → V → V → Result T NodeFault → Type 0
LeavesAll old new (Err fault.Memory) = new ≡ old
LeavesAll old new _ = ⊤

-- each answer other than Ok, with its cause and the disk that it gives back
abbrev pub FailsToFormat : {D : Type 0} → (D → Shown) → D → NodeDown D → Type 0
FailsToFormat shown old (down.Disk disk) = Stays (shown old) (shown disk) × ((shown old).faults ≤ (shown disk).faults) × Rose (shown old).faults (shown disk).faults × (IsTrue (shown old).honest → (shown disk).failed ≡ true)
FailsToFormat shown old (down.Memory disk) = disk ≡ old

-- unless memory was missing, and nothing was done
abbrev pub UnlessMemory : {T : Type 0} → Type 0 → Result T NodeFault → Type 0
UnlessMemory is (Err fault.Memory) = ⊤
UnlessMemory is _ = is
