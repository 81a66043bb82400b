-- When an operation is near another.
use Rattle.std.specs.Prelude.{◌≡◌, ℕ}
use Rattle.fid_space.specs.declared.fid.Fid.{Fid}
use Rattle.tree_model.specs.declared.op.Op.{Op}
use Rattle.tree_model.specs.Keys.{Key, NodeKey, NameKey, AllKey, Laid}
use Rattle.tree_model.specs.Looks.{looks, writes}
use Rattle.tree_model.specs.Laws.{Among}

-- the node or the directory of a key
abbrev pub key_fid : Key → Fid
key_fid (NodeKey f) = f
key_fid (NameKey d x) = d
key_fid (AllKey d) = d

-- a node or one name
abbrev pub IsOne : Key → Type 0
IsOne (NodeKey f) = Unit {0}
IsOne (NameKey d x) = Unit {0}
IsOne (AllKey d) = ⊥

-- An operation over one tree wrote a node or an entry of it, and a later one over another looks at the node, at an entry of it or at all of them.
pub record IsNear (targets : ℕ) (l : Laid) (op : Op) (m : Laid) (next : Op) : Type 0 where
  pub node : Fid
  pub written : Key
  pub writes : Among (writes targets l.tree op) written
  pub one : IsOne written
  pub of_written : key_fid written ≡ node
  pub looked : Key
  pub looks : Among (looks targets m.tree next) looked
  pub of_looked : key_fid looked ≡ node
