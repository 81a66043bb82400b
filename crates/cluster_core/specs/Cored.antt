-- A cluster over sixteen disks, as contracts see it.
use Rattle.std.specs.Prelude.{◌≡◌, ℕ, Bool, false, List, [], ◌++◌, take, drop, Option, Some, None}
use Rattle.outside.specs.Disk.{Shown}
use Rattle.target_turns.specs.Target.{Target}
use Rattle.cluster_core.specs.declared.cluster.TreeAnswer.{TreeAnswer}
use Rattle.cluster_core.specs.declared.cluster.TreeAnswer.TheVariants as trees
use Rattle.cluster_core.specs.Cluster.{Cluster, AreTouched, disks_of}
use Rattle.cluster_core.specs.Looks.{first_resting, first_in_flight, tree_of}
use Rattle.cluster_core.specs.Founding.{unfounded}

-- `spare` are the disks behind those of the targets, and `spent` is whether a call wanted memory
pub record Cored : Type 0 where
  pub cluster : Cluster
  pub spare : List Shown
  pub spent : Bool

-- a new one, of so many targets, over these disks
abbrev pub unmade : ℕ → List Shown → Cored
unmade count disks = record { cluster = record { targets = unfounded count 0 (take count disks); sent = [] }; spare = drop count disks; spent = false }

-- all disks, in their order
abbrev pub all_disks : Cored → List Shown
all_disks c = disks_of c.cluster.targets ++ c.spare

-- a call went well, which it does only where no call before it wanted memory
pub record Goes (old new : Cored) : Type 0 where
  pub before : old.spent ≡ false
  pub after : new.spent ≡ false

-- whatever became of a call
pub record Keeps (old new : Cored) : Type 0 where
  pub touched : AreTouched old.cluster.targets new.cluster.targets
  pub spare : new.spare ≡ old.spare

-- what a look at the tree answers: a target that doesn't serve comes before a request in flight
abbrev pub answer_by : Option ℕ → Option ℕ → List Target → TreeAnswer
answer_by (Some t) flight ts = trees.NotServing t
answer_by None (Some n) ts = trees.Busy n
answer_by None None ts = trees.Tree (tree_of ts)

abbrev pub tree_answer : List Target → TreeAnswer
tree_answer ts = answer_by (first_resting 0 ts) (first_in_flight ts) ts
