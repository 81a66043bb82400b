-- The tree that the objects of all targets make up.
use Rattle.std.specs.Prelude.{ℕ, List, [], ◌∷◌, map, Option, Some, None}
use Rattle.std.specs.List.{range_with_len}
use Rattle.std.specs.FinMap.{get, insert, entries}
use Rattle.fid_space.specs.declared.fid.Fid.{Fid}
use Rattle.tree_model.specs.declared.node.Node.{Node}
use Rattle.tree_model.specs.Tree.{Tree, bare}
use Rattle.tree_model.specs.Changes.{PutNode, PutName, changed, changed_all}
use Rattle.tree_model.specs.Step.{changed_node}
use Rattle.tree_model.specs.Keys.{Laid}
use Rattle.object_store.specs.Objects.{Object, ObjectMap}
use Rattle.object_store.specs.Following.{Entry, Attribute}
use Rattle.tree_shares.specs.Shares.{share}
use Rattle.share_tree.specs.Told.{node_in, all_entries, all_attributes}

abbrev pub with_node : Tree → Fid → Option Node → Tree
with_node t f None = t
with_node t f (Some n) = changed t (PutNode f n)

-- a tree with the nodes of these objects, each without attributes
abbrev pub with_nodes : Tree → List (Fid × Object) → Tree
with_nodes t [] = t
with_nodes t (o ∷ os) = with_nodes (with_node t o.0 (node_in o.1.body)) os

-- a tree in which each of these names stands for its child
abbrev pub with_entries : Tree → List Entry → Tree
with_entries t [] = t
with_entries t (e ∷ es) = with_entries (changed t (PutName e.1 e.2 e.3)) es

-- a tree in which a node that is there has this attribute
abbrev pub with_attribute : Tree → Attribute → Tree
with_attribute t a = changed_all t (changed_node a.0 (get t.nodes a.0) (λ n. record n { xattrs = insert n.xattrs a.1 a.2 }))

abbrev pub with_attributes : Tree → List Attribute → Tree
with_attributes t [] = t
with_attributes t (a ∷ more) = with_attributes (with_attribute t a) more

-- a tree with what the objects of a target tell
unfoldable pub with_objects : Tree → ObjectMap → Tree
with_objects t m = with_attributes (with_entries (with_nodes t (entries m)) (all_entries m)) (all_attributes m)

-- with what the objects of several targets tell, one after another
abbrev pub with_all : Tree → List ObjectMap → Tree
with_all t [] = t
with_all t (m ∷ ms) = with_all (with_objects t m) ms

-- the objects of all targets of a cluster, by the targets' numbers
abbrev pub shares : ℕ → Laid → List ObjectMap
shares targets l = map (share targets l) (range_with_len 0 targets)

-- the tree that they make up
abbrev pub made_of : ℕ → Laid → Tree
made_of targets l = with_all bare (shares targets l)
