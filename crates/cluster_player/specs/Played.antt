-- A scenario while it is played on a cluster, as contracts see it.
use Rattle.std.specs.Prelude.{◌≡◌, ◌++◌, ℕ, Bool, false, List, [], length, Option, Some, None}
use Rattle.std.specs.FinMap as map
use Rattle.outside.specs.Disk.{Shown}
use Rattle.cluster_core.specs.Cluster.{Cluster, disks_of}
use Rattle.cluster_core.specs.Cored.{Cored}
use Rattle.cluster_player.specs.Requests.{Messages, AreBelow}

-- `count` is how many targets the cluster has, where it was made, `ended` whether `end` was read, `messages` as which
-- message each request was sent, `spare` the disks that are no target's, and `spent` whether a line wanted memory
pub record Playing : Type 0 where
  pub count : Option ℕ
  pub ended : Bool
  pub messages : Messages
  pub cluster : Cluster
  pub spare : List Shown
  pub spent : Bool

-- before the cluster is made
abbrev pub no_cluster : Cluster
no_cluster = record { targets = []; sent = [] }

-- no line was read
abbrev pub nothing_played : List Shown → Playing
nothing_played disks = record { count = None; ended = false; messages = map.empty; cluster = no_cluster; spare = disks; spent = false }

-- all disks, in their order
abbrev pub disks_in : Playing → List Shown
disks_in p = disks_of p.cluster.targets ++ p.spare

-- ---- what a player holds

abbrev pub cluster_in : Option Cored → Cluster
cluster_in None = no_cluster
cluster_in (Some c) = c.cluster

abbrev pub spare_in : Option Cored → List Shown → List Shown
spare_in None disks = disks
spare_in (Some c) disks = c.spare

-- the cluster has so many targets, or wasn't made
abbrev pub IsMade : Option ℕ → Option Cored → Type 0
IsMade None None = Unit {0}
IsMade (Some n) (Some c) = length c.cluster.targets ≡ n
IsMade _ _ = ⊥

-- what holds of it between two lines
pub record IsWhole (count : Option ℕ) (messages : Messages) (core : Option Cored) (disks : List Shown) (spent : Bool) : Type 0 where
  pub made : IsMade count core
  pub sixteen : length (disks_of (cluster_in core).targets ++ spare_in core disks) ≡ 16
  pub sent : spent ≡ false → AreBelow (length (cluster_in core).sent) messages
