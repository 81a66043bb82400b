-- How a cluster ends: each target commits, by the targets' numbers.
use Rattle.std.specs.Prelude.{◌≡◌, ◌⊎◌, ◌<◌, ℕ, ◌+◌, true, false, List, [], ◌∷◌, ◌++◌, length, Option, Some, None}
use Rattle.std.specs.List.{flat_map}
use Rattle.scenario_text.specs.declared.line.Line.{Line}
use Rattle.scenario_text.specs.declared.line.Line.TheVariants as lines
use Rattle.target_turns.specs.Target.{serves}
use Rattle.cluster_core.specs.Cluster.{Cluster, target_at}
use Rattle.cluster_core.specs.Commands.{Commits}
use Rattle.cluster_core.specs.Looks.{first_resting, first_in_flight}

-- a commit, with the cluster after it and its lines
pub record Commit : Type 0 where
  pub after : Cluster
  pub said : List Line

-- commits one after another, of the target with this number and those behind it; each target serves after its own
abbrev pub AreCommits : ℕ → Cluster → List Commit → Cluster → Type 0
AreCommits i c [] new = new ≡ c
AreCommits i c (s ∷ ss) new = Commits c i s.after s.said × (serves (target_at s.after.targets i) ≡ true) × AreCommits (i + 1) s.after ss new

abbrev pub commits_lines : List Commit → List Line
commits_lines ss = flat_map (λ s. s.said) ss

-- all targets have committed
pub record IsClean (c new : Cluster) (ls : List Line) : Type 0 where
  pub commits : List Commit
  pub are : AreCommits 0 c commits new
  pub all : length commits ≡ length c.targets
  pub lines_are : ls ≡ commits_lines commits ++ lines.EndClean ∷ []

-- one target stopped at its commit, and no other behind it has committed
pub record IsBroken (c new : Cluster) (ls : List Line) : Type 0 where
  pub commits : List Commit
  pub before : Cluster
  pub said : List Line
  pub are : AreCommits 0 c commits before
  pub there : length commits < length c.targets
  pub breaks : Commits before (length commits) new said
  pub stopped : serves (target_at new.targets (length commits)) ≡ false
  pub lines_are : ls ≡ (commits_lines commits ++ said) ++ lines.EndUnclean (length commits) ∷ []

-- by what is in the way: the lowest target that doesn't serve, and the lowest request in flight
abbrev pub EndsBy : Option ℕ → Option ℕ → Cluster → Cluster → List Line → Type 0
EndsBy (Some t) flight c new ls = (new ≡ c) × (ls ≡ lines.EndUnclean t ∷ [])
EndsBy None (Some n) c new ls = (new ≡ c) × (ls ≡ lines.EndUncleanRequest n ∷ [])
EndsBy None None c new ls = IsClean c new ls ⊎ IsBroken c new ls

abbrev pub Ends : Cluster → Cluster → List Line → Type 0
Ends c new ls = EndsBy (first_resting 0 c.targets) (first_in_flight c.targets) c new ls
