-- The states of a recovery, and how it stops.
use Rattle.std.specs.Prelude.{◌≡◌, ℕ, ◌+◌, if◌then◌else◌, List, [], ◌∷◌, ◌++◌, map, take, length, Option, Some, None, Result, Ok, Err, ⊤}
use Rattle.std.specs.List.{flat_map, list_any, AllByRecursion}
use Rattle.std.specs.BTreeSet.{BTreeSet, IsOrdered}
use Rattle.outside.specs.Disk.{Shown}
use Rattle.target_state.specs.State.{TargetState}
use Rattle.target_node.specs.Node.{NodeState}
use Rattle.update_recovery.specs.declared.bounds.Bounds.{Bounds}
use Rattle.update_recovery.specs.declared.found.Found.{Found}
use Rattle.update_recovery.specs.declared.standing.Standing.{Standing}
use Rattle.update_recovery.specs.declared.standing.Standing.TheVariants as standing
use Rattle.update_recovery.specs.declared.report.Report.{Report}
use Rattle.update_recovery.specs.declared.report.Stop.{Stop}
use Rattle.update_recovery.specs.declared.report.Stop.TheVariants as stop
use Rattle.update_recovery.specs.declared.halt.Halt.{Halt}
use Rattle.update_recovery.specs.declared.halt.Halt.TheVariants as halt
use Rattle.update_recovery.specs.Live.{found_cmp}
use Rattle.update_recovery.specs.Union.{AreBoundsOf, is_logged, AreFound}
use Rattle.update_recovery.specs.Steps.{AllCame, HasStopped, HasLost, told_from}
use Rattle.update_recovery.specs.Gathering.{is_down, Gathers, BreaksGathering, KeepsAll, stable_at, nodes_in, stopped_at}
use Rattle.update_recovery.specs.Redoing.{RedoesAt, BreaksRedoing, KeepsDisk, redone_at}
use Rattle.update_recovery.specs.Resuming.{Resumes, BreaksResuming}

-- the lowest target that is down, from a place on
abbrev pub lowest_down : {D : Type 0} → ℕ → List (Standing D) → Option ℕ
lowest_down place [] = None
lowest_down place (t ∷ ts) = if is_down t then Some place else lowest_down (place + 1) ts

abbrev pub states : {D : Type 0} → List (NodeState D) → List TargetState
states {D} ns = map (λ (n : NodeState D). n.state) ns

-- nothing waits to be committed on any of these
abbrev pub AreIdle : {D : Type 0} → List (NodeState D) → Type 0
AreIdle {D} ns = AllByRecursion (λ (n : NodeState D). n.state.waiting ≡ []) ns

-- The records that the logs of targets have live, of the greatest epoch and above the marks of their masters: each
-- once, by stamp, master, batch and bytes.
pub record IsUnionOf (ss : List TargetState) (bounds : Bounds) (union : BTreeSet Found) : Type 0 where
  pub bounds_are : AreBoundsOf ss bounds
  pub found : AreFound union (λ k. list_any (is_logged bounds.epoch bounds.marks.items k) ss)
  pub ordered : IsOrdered found_cmp union

-- what contracts see of targets that are gathered: their nodes, the records that are to be durable on all of them, and
-- the epoch that comes
pub record Gathering (D : Type 0) : Type 0 where
  pub nodes : List (NodeState D)
  pub bounds : Bounds
  pub union : BTreeSet Found
  pub next : ℕ
  pub report : Report

-- what contracts see of those that are redone, and of those that serve
pub record Renewing (D : Type 0) : Type 0 where
  pub nodes : List (NodeState D)
  pub epoch : ℕ
  pub report : Report

-- ---- how a step stops

-- where a target is down
abbrev pub IfStopped : {D : Type 0} → Stop D → (List (Standing D) → ℕ → Report → Type 0) → Type 0
IfStopped (stop.Stopped targets missing report) is = is targets.items missing report
IfStopped (stop.Memory targets) is = ⊤

abbrev pub WhereStopped : {T D : Type 0} → Result T (Stop D) → (List (Standing D) → ℕ → Report → Type 0) → Type 0
WhereStopped (Ok x) is = ⊤
WhereStopped (Err s) is = IfStopped s is

-- it stops there
abbrev pub StopsAt : {T D : Type 0} → Result T (Stop D) → (List (Standing D) → ℕ → Report → Type 0) → Type 0
StopsAt (Err (stop.Stopped targets missing report)) is = is targets.items missing report
StopsAt _ is = ⊥

-- where memory was missing
abbrev pub WhereNoMemory : {T D : Type 0} → Result T (Stop D) → (List (Standing D) → Type 0) → Type 0
WhereNoMemory (Err (stop.Memory targets)) is = is targets.items
WhereNoMemory _ is = ⊤

-- so many targets are handed back
abbrev pub HasAll : {D : Type 0} → ℕ → Stop D → Type 0
HasAll count (stop.Stopped targets missing report) = length targets.items ≡ count
HasAll count (stop.Memory targets) = length targets.items ≡ count

abbrev pub HandsAll : {T D : Type 0} → ℕ → Result T (Stop D) → Type 0
HandsAll count (Ok x) = ⊤
HandsAll count (Err s) = HasAll count s

-- targets are handed back, all that they were before, as one of them is down: nothing was done
abbrev pub NothingDone : {D : Type 0} → List (Standing D) → ℕ → List (Standing D) → ℕ → Report → Type 0
NothingDone old place targets missing report = (targets ≡ old) × (missing ≡ place) × (report.stable ≡ []) × (report.redone ≡ [])

-- it hands the targets back as a step halted
abbrev pub HandsBack : {D : Type 0} → Halt → List (NodeState D) → Report → Stop D → Type 0
HandsBack (halt.Disk place) nodes report (stop.Stopped targets missing told) = (targets.items ≡ told_from (stopped_at place) 0 nodes) × (missing ≡ place) × (told ≡ report)
HandsBack halt.Memory nodes report (stop.Memory targets) = targets.items ≡ map standing.Opened nodes
HandsBack _ nodes report _ = ⊥

-- ---- gather

-- Each that served was committed, none serves any more and nothing waits to be committed, and the union was taken from
-- their logs.
pub record GatheredAs {D : Type 0} (shown : D → Shown) (old : List (Standing D)) (nodes : List (NodeState D)) (bounds : Bounds) (union : BTreeSet Found) (next : ℕ) (report : Report) : Type 0 where
  pub targets : List (Standing D)
  pub came : AllCame (Gathers shown) old targets
  pub stopped : nodes ≡ flat_map nodes_in targets
  pub long : length nodes ≡ length old
  pub idle : AreIdle nodes
  pub taken : IsUnionOf (states nodes) bounds union
  pub above : next ≡ bounds.epoch + 1
  pub stable : report.stable ≡ told_from stable_at 0 old
  pub redone : report.redone ≡ []

-- the commit of one failed: it is down, and the others are opened
pub record StoppedGathering {D : Type 0} (shown : D → Shown) (old handed : List (Standing D)) (missing : ℕ) (report : Report) : Type 0 where
  pub targets : List (Standing D)
  pub came : HasStopped (Gathers shown) (BreaksGathering shown) missing old targets
  pub handed_are : handed ≡ told_from (stopped_at missing) 0 (flat_map nodes_in targets)
  pub stable : report.stable ≡ told_from stable_at 0 (take missing old)
  pub redone : report.redone ≡ []

-- some were committed
pub record LostGathering {D : Type 0} (shown : D → Shown) (old handed : List (Standing D)) : Type 0 where
  pub targets : List (Standing D)
  pub came : HasLost (Gathers shown) KeepsAll old targets
  pub handed_are : handed ≡ map standing.Opened (flat_map nodes_in targets)

-- ---- redo

module _ {D : Type 0} (shown : D → Shown) (bounds : Bounds) (union : BTreeSet Found) where
  -- each did what it lacked of the union again
  pub record RedoneAs (old new : List (NodeState D)) (before report : Report) : Type 0 where
    pub came : AllCame (RedoesAt shown bounds.epoch bounds.marks.items union.keys) old new
    pub stable : report.stable ≡ before.stable
    pub redone : report.redone ≡ before.redone ++ told_from (redone_at bounds.epoch bounds.marks.items union.keys) 0 old

  -- the commit of one failed: it is down, and the others are opened
  pub record StoppedRedoing (old : List (NodeState D)) (handed : List (Standing D)) (missing : ℕ) (before report : Report) : Type 0 where
    pub nodes : List (NodeState D)
    pub came : HasStopped (RedoesAt shown bounds.epoch bounds.marks.items union.keys) (BreaksRedoing shown bounds.epoch bounds.marks.items union.keys) missing old nodes
    pub handed_are : handed ≡ told_from (stopped_at missing) 0 nodes
    pub stable : report.stable ≡ before.stable
    pub redone : report.redone ≡ before.redone ++ told_from (redone_at bounds.epoch bounds.marks.items union.keys) 0 (take missing old)

  -- some did it, and each other disk is as it was
  pub record LostRedoing (old : List (NodeState D)) (handed : List (Standing D)) : Type 0 where
    pub nodes : List (NodeState D)
    pub came : HasLost (RedoesAt shown bounds.epoch bounds.marks.items union.keys) KeepsDisk old nodes
    pub handed_are : handed ≡ map standing.Opened nodes

-- ---- resume

-- the commit of one failed: it is down, and the others are opened
pub record StoppedResuming {D : Type 0} (shown : D → Shown) (epoch : ℕ) (old : List (NodeState D)) (handed : List (Standing D)) (missing : ℕ) : Type 0 where
  pub nodes : List (NodeState D)
  pub came : HasStopped (Resumes shown epoch) (BreaksResuming shown epoch) missing old nodes
  pub handed_are : handed ≡ told_from (stopped_at missing) 0 nodes
