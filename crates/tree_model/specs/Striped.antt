-- Which targets an operation is on, by the layouts of its directories.
use Rattle.std.specs.Prelude.{ℕ, zero, suc, ◌+◌, ◌*◌, ◌%◌, ◌^◌, List, [], ◌∷◌, ◌++◌, Option, Some, bit_xor}
use Rattle.fid_space.specs.declared.fid.Fid.{Fid}
use Rattle.fid_space.specs.Places.{place_of}
use Rattle.fid_space.specs.Targets.{joined}
use Rattle.tree_model.specs.declared.op.Op.{Op}
use Rattle.tree_model.specs.Changes.{Change, PutNode, DropNode, PutName, DropName, NewLayout, NextLayout, MoveNames}
use Rattle.tree_model.specs.Keys.{Key, NodeKey, Layout, Laid, layout_at, layout_with}
use Rattle.tree_model.specs.Looks.{changes}
use Rattle.tree_model.specs.Participants.{home_of, with_place}

-- FNV-1a over 64 bits, from a value on
abbrev pub hash_from : ℕ → List ℕ → ℕ
hash_from hash [] = hash
hash_from hash (b ∷ bs) = hash_from (bit_xor hash b * 0x100000001b3 % 2 ^ 64) bs

unfoldable pub fnv1a_64 : List ℕ → ℕ
fnv1a_64 bytes = hash_from 0xcbf29ce484222325 bytes

-- the target of a stripe: stripes stand on consecutive targets
abbrev pub stripe_target : ℕ → Layout → ℕ → ℕ
stripe_target targets layout index = (layout.start + index) % targets

-- the target on which an entry stands
abbrev pub entry_place : ℕ → Fid → Layout → List ℕ → Option ℕ
entry_place targets directory layout name = by_count layout.count
  where
    by_count : ℕ → Option ℕ
    by_count zero = place_of targets directory
    by_count (suc more) = Some (stripe_target targets layout (fnv1a_64 name % suc more))

-- a set of targets with those of so many stripes
abbrev pub with_stripes : ℕ → ℕ → Layout → ℕ → ℕ
with_stripes targets set layout zero = set
with_stripes targets set layout (suc index) = with_stripes targets (joined set (stripe_target targets layout index)) layout index

-- with those that a change touches: the place of each node and entry, and each stripe that is made or removed
abbrev pub with_change : ℕ → Laid → ℕ → Change → ℕ
with_change targets l set (PutNode fid node) = with_place set (place_of targets fid)
with_change targets l set (DropNode fid) = with_stripes targets (with_place set (place_of targets fid)) (layout_at l fid) (layout_at l fid).count
with_change targets l set (PutName directory name fid) = with_place set (entry_place targets directory (layout_at l directory) name)
with_change targets l set (DropName directory name) = with_place set (entry_place targets directory (layout_at l directory) name)
with_change targets l set (NewLayout directory count index) = with_stripes targets set (layout_with count index 0) count
with_change targets l set (NextLayout directory count index) =
    with_stripes targets (with_stripes targets (with_place set (place_of targets directory)) (layout_at l directory) (layout_at l directory).count)
    (layout_with count index 0) count
with_change targets l set (MoveNames directory) = set

abbrev pub with_changes : ℕ → Laid → ℕ → List Change → ℕ
with_changes targets l set [] = set
with_changes targets l set (c ∷ cs) = with_changes targets l (with_change targets l set c) cs

-- the home, and each target that the change touches
abbrev pub on : ℕ → Laid → Op → ℕ
on targets l op = with_changes targets l (with_place 0 (home_of targets op)) (changes targets l.tree op)

-- the nodes whose layouts say which targets a change touches
abbrev pub layout_keys : Change → List Key
layout_keys (PutNode fid node) = []
layout_keys (DropNode fid) = NodeKey fid ∷ []
layout_keys (PutName directory name fid) = NodeKey directory ∷ []
layout_keys (DropName directory name) = NodeKey directory ∷ []
layout_keys (NewLayout directory count index) = []
layout_keys (NextLayout directory count index) = NodeKey directory ∷ []
layout_keys (MoveNames directory) = []

abbrev pub layout_keys_all : List Change → List Key
layout_keys_all [] = []
layout_keys_all (c ∷ cs) = layout_keys c ++ layout_keys_all cs
