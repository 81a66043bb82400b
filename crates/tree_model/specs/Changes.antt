-- What an operation changes: nodes, names and layouts, one after another.
use Rattle.std.specs.Prelude.{ℕ, ◌==◌, List, [], ◌∷◌, Option, Some, None, if◌then◌else◌}
use Rattle.std.specs.FinMap.{FinMap, insert, remove, len}
use Rattle.fid_space.specs.declared.fid.Fid.{Fid}
use Rattle.tree_model.specs.declared.node.Node.{Node}
use Rattle.tree_model.specs.Tree.{Tree, Names, fid_cmp, names_of}

pub data Change : Type 0 where
  -- a node comes, or is another from now on
  PutNode : (fid : Fid) (node : Node) → Change
  -- a node goes
  DropNode : (fid : Fid) → Change
  -- a name comes, or stands for another node from now on
  PutName : (directory : Fid) (name : List ℕ) (fid : Fid) → Change
  -- a name goes
  DropName : (directory : Fid) (name : List ℕ) → Change
  -- a new directory gets stripes, or none where the count is 0
  NewLayout : (directory : Fid) (count index : ℕ) → Change
  -- a directory gets other stripes
  NextLayout : (directory : Fid) (count index : ℕ) → Change
  -- all entries of a directory move to its new stripes
  MoveNames : (directory : Fid) → Change

-- the entries where this directory has these names
abbrev pub with_names : Tree → Fid → Names → FinMap fid_cmp Names
with_names t directory names = if len names == 0 then remove t.entries directory else insert t.entries directory names

-- the entries where a name of these is taken away, and an empty directory is still among them
abbrev pub taken_name : Tree → Fid → List ℕ → Option Names → FinMap fid_cmp Names
taken_name t directory name None = t.entries
taken_name t directory name (Some names) = insert t.entries directory (remove names name)

-- a tree shows no layouts
abbrev pub changed : Tree → Change → Tree
changed t (PutNode fid node) = record { nodes = insert t.nodes fid node; entries = t.entries }
changed t (DropNode fid) = record { nodes = remove t.nodes fid; entries = t.entries }
changed t (PutName directory name fid) = record { nodes = t.nodes; entries = with_names t directory (insert (names_of t directory) name fid) }
changed t (DropName directory name) = record { nodes = t.nodes; entries = with_names t directory (remove (names_of t directory) name) }
changed t (NewLayout directory count index) = t
changed t (NextLayout directory count index) = t
changed t (MoveNames directory) = t

abbrev pub changed_all : Tree → List Change → Tree
changed_all t [] = t
changed_all t (c ∷ cs) = changed_all (changed t c) cs
