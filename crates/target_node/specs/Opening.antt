-- What the bytes of a disk hold, and what opening a node does.
use Rattle.std.specs.Prelude.{◌≡◌, ℕ, List, false, true, IsTrue, Option, Some, None, Result, Ok, Err, if◌then◌else◌}
use Rattle.outside.specs.Causes.{Rose}
use Rattle.outside.specs.Disk.{Shown}
use Rattle.target_disk.specs.Tables.{Saved, is_open, opened}
use Rattle.target_disk.specs.Reads.{Keeps}
use Rattle.target_disk.specs.Open.{Reopens}
use Rattle.object_store.specs.declared.fault.ImageFault.{ImageFault}
use Rattle.object_store.specs.declared.fault.ImageFault.TheVariants as image
use Rattle.target_state.specs.State.{TargetState}
use Rattle.target_state.specs.Opening.{state_in}
use Rattle.target_node.specs.declared.fault.NodeOpenFault.{NodeOpenFault}
use Rattle.target_node.specs.declared.fault.NodeOpenFault.TheVariants as fault

abbrev pub held_of : ℕ → ℕ → Option Saved → Option (Result TargetState ImageFault)
held_of targets index None = None
held_of targets index (Some saved) = Some (state_in targets index saved.bytes)

-- What the bytes of a disk hold, of a target of so many: nothing where the table that the gate names isn't readable,
-- else the state of its image, or the place of the image's first field that isn't as stated.
abbrev pub held : ℕ → ℕ → List ℕ → Option (Result TargetState ImageFault)
held targets index content = held_of targets index (opened content)

-- the node that a disk opens as
pub record OpensAsNode (targets index : ℕ) (disk node : Shown) (s : TargetState) : Type 0 where
  pub reopens : Reopens disk node
  pub works : IsTrue disk.honest → node.failed ≡ false
  pub shut : IsTrue disk.honest → is_open disk.content ≡ false → Keeps disk node
  pub holds : IsTrue disk.tells → held targets index disk.content ≡ Some (Ok s)

-- each answer other than Ok, with its cause and the disk that it gives back
abbrev pub FailsToOpenNode : {D : Type 0} → (D → Shown) → ℕ → ℕ → Shown → NodeOpenFault D → Type 0
FailsToOpenNode shown targets index old (fault.Disk disk) = Reopens old (shown disk) × Rose old.faults (shown disk).faults × (IsTrue old.honest → (shown disk).failed ≡ true)
FailsToOpenNode shown targets index old (fault.Damaged disk gates) = Keeps old (shown disk) × (IsTrue old.honest → (shown disk).failed ≡ false) × (IsTrue old.tells → (held targets index old.content ≡ None) × (gates ≡ (if is_open old.content then 1 else 0)))
FailsToOpenNode shown targets index old (fault.BadImage disk place) = Reopens old (shown disk) × (IsTrue old.honest → (shown disk).failed ≡ false) × (IsTrue old.tells → held targets index old.content ≡ Some (Err (image.BadImage place)))
FailsToOpenNode shown targets index old (fault.Memory disk) = Reopens old (shown disk) × (IsTrue old.honest → old.failed ≡ false → (shown disk).failed ≡ false)
