-- What a run keeps, and what a line of the scenario makes of it.
use Rattle.std.specs.Prelude.{ℕ, Bool, true, false, List, slice_set, slice_index_or, replicate, Option, None, refl}
use Rattle.std.specs.Option.{option_map}
use Rattle.std.specs.Coded.{Coded, code_by, coded×, coded_list, coded_bool, coded_option}
use Rattle.tree_model.specs.Tree.{Grown, coded_grown}
use Rattle.scenario_text.specs.Spelling.{Entry, Skip, Order}
use Rattle.scenario_text.specs.declared.command.Command.{Command}
use Rattle.scenario_text.specs.declared.command.Command.TheVariants as commands
use Rattle.model_mode.specs.Plain.{tree_by}

-- the tree, where the cluster was made; whether `end` was read; which numbers were used
pub record Kept : Type 0 where
  pub tree : Option Grown
  pub ended : Bool
  pub used : List Bool

-- so many flags that aren't set
unfoldable pub no_flags : ℕ → List Bool
no_flags n = replicate n false

abbrev pub nothing_kept : Kept
nothing_kept = record { tree = None; ended = false; used = no_flags 65537 }

abbrev pub is_used : List Bool → ℕ → Bool
is_used used number = slice_index_or used number false

-- the cluster that a tree was made for
abbrev pub cluster_of : Option Grown → Option ℕ
cluster_of t = option_map (λ g. g.targets) t

abbrev pub ended_by : Bool → Command → Bool
ended_by ended commands.End = true
ended_by ended _ = ended

abbrev pub used_by : List Bool → Command → List Bool
used_by used (commands.Send r) = slice_set used r.number true
used_by used _ = used

abbrev pub kept_by : Kept → Command → Kept
kept_by k c = record { tree = tree_by k.tree c; ended = ended_by k.ended c; used = used_by k.used c }

abbrev pub kept_after : Kept → Entry → Kept
kept_after k (Skip line) = k
kept_after k (Order c) = kept_by k c

abbrev pub coded_kept : Coded Kept
coded_kept = code_by (Option Grown × (Bool × List Bool)) (coded× (coded_option coded_grown) (coded× coded_bool (coded_list coded_bool)))
    (λ k. (k.tree, (k.ended, k.used))) (λ p. record { tree = p.0; ended = p.1.0; used = p.1.1 }) (λ _. refl)
