-- How a recovery ends at a target.
use Rattle.std.specs.Prelude.{◌≡◌, ℕ}
use Rattle.outside.specs.Disk.{Shown}
use Rattle.target_state.specs.Rules.{renewed}
use Rattle.target_node.specs.Node.{NodeState}
use Rattle.update_recovery.specs.Disks.{Commits, Breaks}

-- its log is empty and it has the epoch, with holds, notes, batches and marks anew, and all of that is committed
pub record Resumes {D : Type 0} (shown : D → Shown) (epoch : ℕ) (place : ℕ) (old new : NodeState D) : Type 0 where
  pub state : new.state ≡ renewed epoch old.state
  pub disk : Commits (shown old.disk) (shown new.disk) (renewed epoch old.state)

-- a call of its disk failed in that
abbrev pub BreaksResuming : {D : Type 0} → (D → Shown) → ℕ → ℕ → NodeState D → NodeState D → Type 0
BreaksResuming shown epoch place old new = Breaks (shown old.disk) (shown new.disk) (renewed epoch old.state)
