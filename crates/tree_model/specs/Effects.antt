-- What stands after a change, from what stood before it.
use Rattle.std.specs.Prelude.{ℕ, suc, cond, List, Option, Some, None}
use Rattle.std.specs.Ordering.{eq_by_cmp}
use Rattle.std.specs.FinMap.{insert, remove}
use Rattle.fid_space.specs.declared.fid.Fid.{Fid}
use Rattle.tree_model.specs.declared.node.Node.{Node}
use Rattle.tree_model.specs.Tree.{Names, fid_cmp, name_cmp}
use Rattle.tree_model.specs.Changes.{Change, PutNode, DropNode, PutName, DropName, NewLayout, NextLayout}
use Rattle.tree_model.specs.Keys.{Layout, layout_with, plain_layout}

-- the node of a FID
abbrev pub node_after : Change → Fid → Option Node → Option Node
node_after (PutNode f n) g o = cond (eq_by_cmp fid_cmp g f) (Some n) o
node_after (DropNode f) g o = cond (eq_by_cmp fid_cmp g f) None o
node_after c g o = o

-- all names of a directory
abbrev pub names_after : Change → Fid → Names → Names
names_after (PutName d x f) e m = cond (eq_by_cmp fid_cmp e d) (insert m x f) m
names_after (DropName d x) e m = cond (eq_by_cmp fid_cmp e d) (remove m x) m
names_after c e m = m

-- what a name of a directory stands for
abbrev pub name_after : Change → Fid → List ℕ → Option Fid → Option Fid
name_after (PutName d x f) e y o = cond (eq_by_cmp fid_cmp e d) (cond (eq_by_cmp name_cmp y x) (Some f) o) o
name_after (DropName d x) e y o = cond (eq_by_cmp fid_cmp e d) (cond (eq_by_cmp name_cmp y x) None o) o
name_after c e y o = o

-- the layout of a directory
abbrev pub layout_after : Change → Fid → Layout → Layout
layout_after (DropNode f) g lay = cond (eq_by_cmp fid_cmp g f) plain_layout lay
layout_after (NewLayout d count index) g lay = cond (eq_by_cmp fid_cmp g d) (layout_with count index 0) lay
layout_after (NextLayout d count index) g lay = cond (eq_by_cmp fid_cmp g d) (layout_with count index (suc lay.generation)) lay
layout_after c g lay = lay
