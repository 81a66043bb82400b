-- What is so of the objects that operations ask for and write.
use Rattle.std.specs.Prelude.{◌≡◌, ◌≤◌, ◌⊎◌, ℕ, List, [], ◌∷◌, true, false, Some}
use Rattle.fid_space.specs.declared.fid.Fid.{Fid}
use Rattle.fid_space.specs.Places.{place_of}
use Rattle.fid_space.specs.Targets.{is_member}
use Rattle.tree_model.specs.declared.op.Op.{Op}
use Rattle.tree_model.specs.Keys.{Key, NodeKey, NameKey, AllKey, Laid, meets, layout_at}
use Rattle.tree_model.specs.Looks.{looks, writes}
use Rattle.tree_model.specs.Striped.{on}
use Rattle.tree_model.specs.Kept.{laid_step}
use Rattle.tree_model.specs.Laws.{Agree, Among}
use Rattle.tree_model.specs.OpText.{IsOp}
use Rattle.std.specs.FinMap.{get}
use Rattle.tree_model.specs.Step.{is_dir}
use Rattle.tree_model.specs.Tree.{Tree}
use Rattle.op_laws.specs.Near.{key_fid, IsOne, IsNear}
use Rattle.op_laws.specs.Objects.{is_among, parts_of, stands, saw, wrote, there, owner}
use Rattle.tree_sound.specs.Sound.{IsSound}

-- a cluster's number of targets
abbrev pub IsCount : ℕ → Type 0
IsCount targets = (1 ≤ targets) × (targets ≤ 16)

abbrev pub SameSaw : Type 0
SameSaw = (targets : ℕ) (l m : Laid) (op : Op) → Agree targets l m op → saw targets l op ≡ saw targets m op

abbrev pub SameWrote : Type 0
SameWrote = (targets : ℕ) (l m : Laid) (op : Op) → Agree targets l m op → wrote targets l op ≡ wrote targets m op

-- a written object has a place, which takes part
abbrev pub WroteOn : Type 0
WroteOn =
    (targets most : ℕ) (l : Laid) (op : Op) (x : Fid) → IsCount targets → IsSound targets most l → is_among (wrote targets l op) x ≡ true
    → (t : ℕ) × (place_of targets x ≡ Some t) × (is_member (on targets l op) t ≡ true)

-- who looks at a key is told who wrote the objects at which it stands
abbrev pub LooksTold : Type 0
LooksTold =
    (targets : ℕ) (l : Laid) (op : Op) (k : Key) (x : Fid) → Among (looks targets l.tree op) k → is_among (stands targets l k) x ≡ true
    → is_among (saw targets l op) x ≡ true

-- a key that is met stands afterwards at an object that was written
abbrev pub WritesObject : Type 0
WritesObject =
    (targets most : ℕ) (l : Laid) (op : Op) (w k : Key) → IsCount targets → IsSound targets most l → Among (writes targets l.tree op) w → meets w k ≡ true
    → (x : Fid) × (is_among (stands targets (laid_step targets l op) k) x ≡ true) × (is_among (wrote targets l op) x ≡ true)

-- A key stays where it stands; or the operation was told who wrote the objects where it stood, and wrote one where it stands afterwards.
abbrev pub Moves : Type 0
Moves =
    (targets most : ℕ) (l : Laid) (op : Op) (k : Key) → IsCount targets → IsSound targets most l
    → ((x : Fid) → is_among (stands targets l k) x ≡ true → is_among (stands targets (laid_step targets l op) k) x ≡ true)
    ⊎ (((x : Fid) → is_among (stands targets l k) x ≡ true → is_among (saw targets l op) x ≡ true)
    × ((x : Fid) × (is_among (stands targets (laid_step targets l op) k) x ≡ true) × (is_among (wrote targets l op) x ≡ true)))

-- what is written without being told who wrote it isn't there, and its owner was asked for
abbrev pub Beside : Type 0
Beside =
    (targets most : ℕ) (l : Laid) (op : Op) (x : Fid) → IsCount targets → IsSound targets most l → is_among (wrote targets l op) x ≡ true
    → (is_among (saw targets l op) x ≡ true) ⊎ ((there targets l x ≡ false) × (is_among (saw targets l op) (owner targets x) ≡ true))

-- what is written and gone afterwards was written with its owner
abbrev pub Gone : Type 0
Gone =
    (targets most : ℕ) (l : Laid) (op : Op) (x : Fid) → IsCount targets → IsSound targets most l → is_among (wrote targets l op) x ≡ true
    → there targets (laid_step targets l op) x ≡ false → is_among (wrote targets l op) (owner targets x) ≡ true

-- what isn't written stays, or stays away
abbrev pub Stays : Type 0
Stays =
    (targets most : ℕ) (l : Laid) (op : Op) (x : Fid) → IsCount targets → IsSound targets most l → is_among (wrote targets l op) x ≡ false
    → there targets (laid_step targets l op) x ≡ there targets l x

-- what is looked at has a place: a node's FID, and the directory of a name or of all names is there
abbrev pub IsAsked : ℕ → Laid → Key → Type 0
IsAsked targets l (NodeKey f) = (t : ℕ) × (place_of targets f ≡ Some t)
IsAsked targets l (NameKey d x) = is_dir (get l.tree.nodes d) ≡ true
IsAsked targets l (AllKey d) = is_dir (get l.tree.nodes d) ≡ true

abbrev pub LooksHavePlaces : Type 0
LooksHavePlaces =
    (targets most : ℕ) (l : Laid) (op : Op) (k : Key) → IsCount targets → IsSound targets most l → IsOp targets op → Among (looks targets l.tree op) k → IsAsked targets l k

-- the objects of a directory that is there are there, and have a place
abbrev pub PartsAreThere : Type 0
PartsAreThere =
    (targets most : ℕ) (l : Laid) (d x : Fid) → IsCount targets → IsSound targets most l → is_dir (get l.tree.nodes d) ≡ true → is_among (parts_of targets d (layout_at l d)) x ≡ true
    → (there targets l x ≡ true) × ((t : ℕ) × (place_of targets x ≡ Some t))

-- A written object's owner has a written key, and an asked one's a key that is looked at. So who wrote an object that another asks
-- wrote a key of a node or directory of which the other looks at a key.
abbrev pub WroteNear : Type 0
WroteNear =
    (targets most : ℕ) (l : Laid) (op : Op) (x : Fid) → IsCount targets → IsSound targets most l → is_among (wrote targets l op) x ≡ true
    → (w : Key) × Among (writes targets l.tree op) w × (key_fid w ≡ owner targets x) × IsOne w

abbrev pub SawNear : Type 0
SawNear =
    (targets most : ℕ) (l : Laid) (op : Op) (x : Fid) → IsCount targets → IsSound targets most l → IsOp targets op → is_among (saw targets l op) x ≡ true
    → (k : Key) × Among (looks targets l.tree op) k × (key_fid k ≡ owner targets x)

-- so who is told of a writer is near it
abbrev pub TellsAreNear : Type 0
TellsAreNear =
    (targets most more : ℕ) (l : Laid) (op : Op) (m : Laid) (next : Op) (x : Fid) → IsCount targets → IsSound targets most l → IsSound targets more m → IsOp targets next
    → is_among (wrote targets l op) x ≡ true → is_among (saw targets m next) x ≡ true → IsNear targets l op m next

-- each name, and all names, are looked at behind the node of their directory, which says where they stand
abbrev pub IsOrdered : List Key → List Key → Type 0
IsOrdered seen [] = Unit {0}
IsOrdered seen (NodeKey f ∷ ks) = IsOrdered (NodeKey f ∷ seen) ks
IsOrdered seen (NameKey d x ∷ ks) = Among seen (NodeKey d) × IsOrdered (NameKey d x ∷ seen) ks
IsOrdered seen (AllKey d ∷ ks) = Among seen (NodeKey d) × IsOrdered (AllKey d ∷ seen) ks

abbrev pub NodesComeFirst : Type 0
NodesComeFirst = (targets : ℕ) (t : Tree) (op : Op) → IsOrdered [] (looks targets t op)
