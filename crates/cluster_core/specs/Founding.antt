-- How a cluster begins: its targets are down, and are then formatted by their numbers.
use Rattle.std.specs.Prelude.{◌≡◌, ℕ, ◌+◌, false, if◌then◌else◌, List, [], ◌∷◌, ◌++◌, length}
use Rattle.outside.specs.Disk.{Shown}
use Rattle.scenario_text.specs.declared.line.Line.{Line}
use Rattle.scenario_text.specs.declared.line.Line.TheVariants as lines
use Rattle.target_turns.specs.Target.{Target, serves, target_down}
use Rattle.target_turns.specs.Founding.{Founds}
use Rattle.cluster_core.specs.Cluster.{Cluster, target_at}
use Rattle.cluster_core.specs.Commands.{with_target}

-- targets over disks that weren't formatted, of which the first has this number
abbrev pub unfounded : ℕ → ℕ → List Shown → List Target
unfounded count i [] = []
unfounded count i (d ∷ ds) = target_down count i false d ∷ unfounded count (i + 1) ds

-- one that couldn't be formatted is down, and a line says so
abbrev pub founding_lines : ℕ → Target → List Line
founding_lines i t = if serves t then [] else lines.Down i ∷ []

-- the target with this number is formatted
pub record FoundsAt (c : Cluster) (i : ℕ) (new : Cluster) : Type 0 where
  pub founds : Founds (target_at c.targets i) (target_at new.targets i)
  pub after : new ≡ with_target c i (target_at new.targets i)

-- a target and those behind it are formatted, with the cluster after each
abbrev pub AreFounded : ℕ → Cluster → List Cluster → Cluster → Type 0
AreFounded i c [] new = new ≡ c
AreFounded i c (d ∷ ds) new = FoundsAt c i d × AreFounded (i + 1) d ds new

abbrev pub foundings_lines : ℕ → List Cluster → List Line
foundings_lines i [] = []
foundings_lines i (d ∷ ds) = founding_lines i (target_at d.targets i) ++ foundings_lines (i + 1) ds

-- all of them
pub record AllFounded (c new : Cluster) (ls : List Line) : Type 0 where
  pub clusters : List Cluster
  pub are : AreFounded 0 c clusters new
  pub all : length clusters ≡ length c.targets
  pub lines_are : ls ≡ foundings_lines 0 clusters
