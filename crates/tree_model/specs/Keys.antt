-- What an operation can look at or write, and what stands there.
use Rattle.std.specs.Prelude.{◌&&◌, ℕ, zero, suc, Bool, false, List, [], ◌∷◌, ◌++◌, Option}
use Rattle.std.specs.Option.{unwrap_or}
use Rattle.std.specs.FinMap.{FinMap, get, empty, insert, remove}
use Rattle.fid_space.specs.declared.fid.Fid.{Fid}
use Rattle.tree_model.specs.declared.node.Node.{Node}
use Rattle.tree_model.specs.Tree.{Tree, Names, base, fid_cmp, same_fid, same_name, names_of, named}
use Rattle.tree_model.specs.Changes.{Change, PutNode, DropNode, PutName, DropName, NewLayout, NextLayout, MoveNames, changed}

-- a node, a name of a directory, or all names of a directory
pub data Key : Type 0 where
  NodeKey : (fid : Fid) → Key
  NameKey : (directory : Fid) (name : List ℕ) → Key
  AllKey : (directory : Fid) → Key

-- Whether a key that was written meets one that is looked at: a name meets itself and all names of its
-- directory, any other key meets itself alone.
abbrev pub meets : Key → Key → Bool
meets (NodeKey f) (NodeKey g) = same_fid f g
meets (NameKey d x) (NameKey e y) = same_fid d e && same_name x y
meets (NameKey d x) (AllKey e) = same_fid d e
meets (AllKey d) (AllKey e) = same_fid d e
meets (NodeKey f) (NameKey e y) = false
meets (NodeKey f) (AllKey e) = false
meets (NameKey d x) (NodeKey g) = false
meets (AllKey d) (NodeKey g) = false
meets (AllKey d) (NameKey e y) = false

-- LAYOUTS

-- How many stripes a directory has, the target of the first one, and how often it was given others. With
-- no stripes its entries stand where the directory stands.
pub record Layout : Type 0 where
  pub count : ℕ
  pub start : ℕ
  pub generation : ℕ

abbrev pub plain_layout : Layout
plain_layout = record { count = 0; start = 0; generation = 0 }

-- a tree with the layouts of its directories
pub record Laid : Type 0 where
  pub tree : Tree
  pub layouts : FinMap fid_cmp Layout

abbrev pub layout_at : Laid → Fid → Layout
layout_at l directory = unwrap_or (get l.layouts directory) plain_layout

-- with no stripe the first one's target says nothing, and is 0
abbrev pub layout_with : ℕ → ℕ → ℕ → Layout
layout_with zero index generation = record { count = 0; start = 0; generation = generation }
layout_with (suc more) index generation = record { count = suc more; start = index; generation = generation }

abbrev pub layouts_after : Laid → Change → FinMap fid_cmp Layout
layouts_after l (PutNode fid node) = l.layouts
layouts_after l (DropNode fid) = remove l.layouts fid
layouts_after l (PutName directory name fid) = l.layouts
layouts_after l (DropName directory name) = l.layouts
layouts_after l (NewLayout directory count index) = insert l.layouts directory (layout_with count index 0)
layouts_after l (NextLayout directory count index) = insert l.layouts directory (layout_with count index (suc (layout_at l directory).generation))
layouts_after l (MoveNames directory) = l.layouts

abbrev pub laid_after : Laid → Change → Laid
laid_after l c = record { tree = changed l.tree c; layouts = layouts_after l c }

abbrev pub laid_after_all : Laid → List Change → Laid
laid_after_all l [] = l
laid_after_all l (c ∷ cs) = laid_after_all (laid_after l c) cs

-- the root alone, which is plain
abbrev pub laid_base : Laid
laid_base = record { tree = base; layouts = empty }

-- what stands under a key: a node with its attributes, its parent and its layout; what a name stands for;
-- all names of a directory
pub data Value : Type 0 where
  NodeValue : (node : Option Node) (layout : Layout) → Value
  NameValue : (fid : Option Fid) → Value
  AllValue : (names : Names) → Value

abbrev pub at : Laid → Key → Value
at l (NodeKey f) = NodeValue (get l.tree.nodes f) (layout_at l f)
at l (NameKey d x) = NameValue (named l.tree d x)
at l (AllKey d) = AllValue (names_of l.tree d)

-- the keys that a change writes
abbrev pub keys_of : Change → List Key
keys_of (PutNode fid node) = NodeKey fid ∷ []
keys_of (DropNode fid) = NodeKey fid ∷ []
keys_of (PutName directory name fid) = NameKey directory name ∷ []
keys_of (DropName directory name) = NameKey directory name ∷ []
keys_of (NewLayout directory count index) = NodeKey directory ∷ []
keys_of (NextLayout directory count index) = NodeKey directory ∷ []
keys_of (MoveNames directory) = AllKey directory ∷ []

abbrev pub keys_of_all : List Change → List Key
keys_of_all [] = []
keys_of_all (c ∷ cs) = keys_of c ++ keys_of_all cs
