-- The change of each operation, with what the checks before it say of the tree.
use Rattle.std.specs.Prelude.{◌≡◌, ◌<◌, ◌||◌, ◌&&◌, ◌+◌, ◌-◌, ℕ, true, false, not, nat_le, Some, None, List, [], ◌∷◌, ◌++◌}
use Rattle.std.specs.FinMap.{get, empty}
use Rattle.fid_space.specs.declared.fid.Fid.{Fid}
use Rattle.fid_space.specs.Places.{is_client}
use Rattle.tree_model.specs.declared.node.Node.{Node}
use Rattle.tree_model.specs.Tree.{Tree, names_of, named, same_fid, directory_in, file_node}
use Rattle.tree_model.specs.Changes.{Change, PutNode, DropNode, PutName, DropName, NewLayout, NextLayout, MoveNames}
use Rattle.tree_model.specs.Step.{is_dir, same_place}

-- one link less: what isn't there stays away, the last link takes the node along
pub data Releases (t : Tree) (c : Fid) : List Change → Type 0 where
  Absent : (e : get t.nodes c ≡ None) → Releases t c []
  Goes : (n : Node) (e : get t.nodes c ≡ Some n) (last : (n.dir || nat_le n.links 1) ≡ true) → Releases t c (DropNode c ∷ [])
  Fewer : (n : Node) (e : get t.nodes c ≡ Some n) (more : (n.dir || nat_le n.links 1) ≡ false) → Releases t c (PutNode c (record n { links = n.links - 1 }) ∷ [])

-- a directory that comes under another parent gets it
pub data Moving (t : Tree) (p q m : Fid) : List Change → Type 0 where
  Stays : (e : (is_dir (get t.nodes m) && not (same_fid p q)) ≡ false) → Moving t p q m []
  Turns : (n : Node) (e : get t.nodes m ≡ Some n) (dir : n.dir ≡ true) (other : same_fid p q ≡ false) → Moving t p q m (PutNode m (record n { parent = q }) ∷ [])

-- what was at the new name of a rename: nothing, or another node, a directory without entries
pub data Over (t : Tree) (m q : Fid) (y : List ℕ) : List Change → Type 0 where
  Free : (e : named t q y ≡ None) → Over t m q y []
  Instead : (old : Fid) (gone : List Change) (e : named t q y ≡ Some old) (other : same_fid m old ≡ false) (bare : is_dir (get t.nodes old) ≡ true → names_of t old ≡ empty)
      (r : Releases t old gone) → Over t m q y gone

-- the nodes of one FID before and after a change of its attributes
pub record IsAlike (n k : Node) : Type 0 where
  pub dir : k.dir ≡ n.dir
  pub links : k.links ≡ n.links
  pub parent : k.parent ≡ n.parent

-- a new file, a new directory, a link, a name that goes with a link, a rename, other attributes, other stripes
pub data Shape (targets : ℕ) (t : Tree) : List Change → Type 0 where
  Nothing : Shape targets t []
  File : (p : Fid) (x : List ℕ) (f : Fid) (dir : is_dir (get t.nodes p) ≡ true) (free : named t p x ≡ None) (new : get t.nodes f ≡ None) (client : is_client targets f ≡ true)
      → Shape targets t (PutNode f file_node ∷ PutName p x f ∷ [])
  Directory : (p : Fid) (x : List ℕ) (f : Fid) (c i : ℕ) (dir : is_dir (get t.nodes p) ≡ true) (free : named t p x ≡ None) (new : get t.nodes f ≡ None) (client : is_client targets f ≡ true)
      → Shape targets t (PutNode f (directory_in p) ∷ PutName p x f ∷ NewLayout f c i ∷ [])
  Linked : (p : Fid) (x : List ℕ) (f : Fid) (n : Node) (dir : is_dir (get t.nodes p) ≡ true) (free : named t p x ≡ None) (e : get t.nodes f ≡ Some n) (file : n.dir ≡ false) (few : n.links < 65000)
      → Shape targets t (PutName p x f ∷ PutNode f (record n { links = n.links + 1 }) ∷ [])
  Left : (p : Fid) (x : List ℕ) (c : Fid) (gone : List Change) (dir : is_dir (get t.nodes p) ≡ true) (e : named t p x ≡ Some c) (bare : is_dir (get t.nodes c) ≡ true → names_of t c ≡ empty)
      (r : Releases t c gone) → Shape targets t (DropName p x ∷ gone)
  Renamed : (p : Fid) (x : List ℕ) (q : Fid) (y : List ℕ) (m : Fid) (gone turn : List Change) (dir : is_dir (get t.nodes p) ≡ true) (into : is_dir (get t.nodes q) ≡ true)
      (e : named t p x ≡ Some m) (apart : same_place p x q y ≡ false) (o : Over t m q y gone) (v : Moving t p q m turn)
      → Shape targets t (DropName p x ∷ (gone ++ (PutName q y m ∷ turn)))
  Changed : (f : Fid) (n k : Node) (e : get t.nodes f ≡ Some n) (like : IsAlike n k) → Shape targets t (PutNode f k ∷ [])
  Migrated : (d : Fid) (c i : ℕ) (dir : is_dir (get t.nodes d) ≡ true) → Shape targets t (NextLayout d c i ∷ MoveNames d ∷ [])
