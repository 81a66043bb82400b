-- The tree as a value: what each FID names, and what each name of a directory names. It knows no
-- targets, stripes, logs or layouts.
use Rattle.std.specs.Prelude.{ℕ, Bool, true, false, List, Option, refl}
use Rattle.std.specs.Option.{unwrap_or}
use Rattle.std.specs.FinMap.{FinMap, from_entries, insert, empty, get}
use Rattle.std.specs.FinMap as map
use Rattle.std.specs.Coded.{Coded, code_by, coded×, coded_ℕ, coded_bool}
use Rattle.fid_space.specs.declared.fid.Fid.{Fid}
use Rattle.tree_model.specs.Fids.{coded_fid, coded_name}
pub use Rattle.tree_model.specs.Fids.{fid_cmp, name_cmp, same_fid, same_name}
use Rattle.tree_model.specs.declared.node.Node.{Node}

-- the names of a directory, and what each stands for
abbrev pub Names : Type 0
Names = FinMap name_cmp Fid

-- A directory that has no entry isn't among the entries.
pub record Tree : Type 0 where
  pub nodes : FinMap fid_cmp Node
  pub entries : FinMap fid_cmp Names

-- a tree, and the number of targets of its cluster
pub record Grown : Type 0 where
  pub targets : ℕ
  pub tree : Tree

-- what a directory has
abbrev pub names_of : Tree → Fid → Names
names_of t directory = unwrap_or (get t.entries directory) empty

-- what a name of a directory stands for
abbrev pub named : Tree → Fid → List ℕ → Option Fid
named t directory name = get (names_of t directory) name

abbrev pub root_fid : Fid
root_fid = record { seq = 0x200000007; oid = 1; ver = 0 }

-- where no parent is kept
abbrev pub no_fid : Fid
no_fid = record { seq = 0; oid = 0; ver = 0 }

-- a new directory, in this parent
abbrev pub directory_in : Fid → Node
directory_in parent = record { dir = true; mode = 0o755; uid = 0; gid = 0; links = 2; parent = parent; xattrs = empty }

-- the root is its own parent
abbrev pub root_node : Node
root_node = directory_in root_fid

abbrev pub file_node : Node
file_node = record { dir = false; mode = 0o644; uid = 0; gid = 0; links = 1; parent = no_fid; xattrs = empty }

-- the root alone
abbrev pub base : Tree
base = record { nodes = insert empty root_fid root_node; entries = empty }

-- no node, and no entry
abbrev pub bare : Tree
bare = record { nodes = empty; entries = empty }

-- the tree of two lists
abbrev pub made : List (Fid × Node) → List (Fid × Names) → Tree
made nodes entries = record { nodes = from_entries nodes; entries = from_entries entries }

-- how the values are told apart
abbrev pub coded_names : Coded Names
coded_names = map.code coded_name coded_fid

abbrev pub coded_node : Coded Node
coded_node = code_by (Bool × (ℕ × (ℕ × (ℕ × (ℕ × (Fid × FinMap name_cmp (List ℕ)))))))
    (coded× coded_bool (coded× coded_ℕ (coded× coded_ℕ (coded× coded_ℕ (coded× coded_ℕ (coded× coded_fid (map.code coded_name coded_name)))))))
    (λ n. (n.dir, (n.mode, (n.uid, (n.gid, (n.links, (n.parent, n.xattrs)))))))
    (λ p. record { dir = p.0; mode = p.1.0; uid = p.1.1.0; gid = p.1.1.1.0; links = p.1.1.1.1.0; parent = p.1.1.1.1.1.0; xattrs = p.1.1.1.1.1.1 }) (λ _. refl)

abbrev pub coded_tree : Coded Tree
coded_tree = code_by (FinMap fid_cmp Node × FinMap fid_cmp Names) (coded× (map.code coded_fid coded_node) (map.code coded_fid coded_names))
    (λ t. (t.nodes, t.entries)) (λ p. record { nodes = p.0; entries = p.1 }) (λ _. refl)

abbrev pub coded_grown : Coded Grown
coded_grown = code_by (ℕ × Tree) (coded× coded_ℕ coded_tree) (λ g. (g.targets, g.tree)) (λ p. record { targets = p.0; tree = p.1 }) (λ _. refl)
