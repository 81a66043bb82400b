-- At which objects keys stand, and which objects an operation asks for.
use Rattle.std.specs.Prelude.{◌+◌, ◌-◌, ◌/◌, ◌%◌, ◌&&◌, ◌||◌, ℕ, zero, suc, Bool, if◌then◌else◌, is_some, List, [], ◌∷◌}
use Rattle.std.specs.List.{flat_map}
use Rattle.std.specs.FinMap.{get}
use Rattle.fid_space.specs.declared.fid.Fid.{Fid}
use Rattle.fid_space.specs.Places.{base_of, offset_of, is_stripe}
use Rattle.tree_model.specs.declared.op.Op.{Op}
use Rattle.tree_model.specs.Keys.{Key, NodeKey, NameKey, AllKey, Layout, Laid, layout_at}
use Rattle.tree_model.specs.Looks.{looks}
pub use Rattle.tree_shares.specs.Updates.{part_named}
pub use Rattle.tree_shares.specs.Wrote.{is_among, stripes_below, stripes_of, written_by, wrote}

-- ---- the objects of a directory

-- the objects that hold the entries of a directory
abbrev pub parts_of : ℕ → Fid → Layout → List Fid
parts_of targets directory layout = by_count layout.count
  where
    by_count : ℕ → List Fid
    by_count zero = directory ∷ []
    by_count (suc more) = stripes_below targets directory layout (suc more)

-- the directory of a stripe's FID; any other FID is its own
abbrev pub owner : ℕ → Fid → Fid
owner targets x =
    if is_stripe targets x
    then record { seq = base_of ((offset_of x - 0x80000) / 0x8000) + (offset_of x - 0x80000) % 0x8000; oid = x.oid; ver = 0 }
    else x

-- an object is there: a node, or a stripe of a directory
abbrev pub there : ℕ → Laid → Fid → Bool
there targets l x =
    is_some (get l.tree.nodes x) || (is_stripe targets x && is_among (stripes_of targets (owner targets x) (layout_at l (owner targets x))) x)

-- ---- keys and objects

-- The objects at which a key stands: a node's key at the node, a name's key at the part that has the name, and the key of all
-- names at all parts. A stripe is no node's: nobody is told who wrote it where a node is asked for.
abbrev pub stands : ℕ → Laid → Key → List Fid
stands targets l (NodeKey f) = if is_stripe targets f then [] else f ∷ []
stands targets l (NameKey d x) = part_named targets d (layout_at l d) x ∷ []
stands targets l (AllKey d) = parts_of targets d (layout_at l d)

-- the objects that an operation asks, and of which it is told who wrote them last
abbrev pub saw : ℕ → Laid → Op → List Fid
saw targets l op = flat_map (stands targets l) (looks targets l.tree op)
