-- What shares tell of a tree.
use Rattle.std.specs.Prelude.{◌≡◌, ◌≢◌, ◌≤◌, ◌<◌, ◌+◌, ℕ, zero, suc, true, false, nat_lt, List, length, take, Some}
use Rattle.std.specs.List.{range_with_len, flat_map}
use Rattle.std.specs.Option.{option_map}
use Rattle.std.specs.FinMap.{get, len, empty, entries, from_entries}
use Rattle.fid_space.specs.declared.fid.Fid.{Fid}
use Rattle.fid_space.specs.Places.{place_of}
use Rattle.tree_model.specs.declared.node.Node.{Node}
use Rattle.tree_model.specs.Tree.{Names, names_of, named}
use Rattle.tree_model.specs.Keys.{Layout, Laid, layout_at}
use Rattle.object_store.specs.Reads.{node, holder, lookup, child_get}
use Rattle.tree_shares.specs.Shares.{names_in, node_object, stripe_object, stripe_fid_of, share}
use Rattle.tree_shares.specs.Updates.{part_named}
use Rattle.tree_sound.specs.Sound.{IsSound}

-- at the place of any FID: the node with it, or that there is none; a stripe is no node
abbrev pub NodesAreTold : Type 0
NodesAreTold =
    (targets most : ℕ) (l : Laid) (f : Fid) (target : ℕ) → targets ≤ 16 → IsSound targets most l → place_of targets f ≡ Some target
    → node (get (share targets l target) f) ≡ option_map (λ n. node_object n (layout_at l f) (names_of l.tree f)) (get l.tree.nodes f)

-- at the part that has a name: what the name stands for
abbrev pub NamesAreTold : Type 0
NamesAreTold =
    (targets most : ℕ) (l : Laid) (d : Fid) (n : Node) (name : List ℕ) (target : ℕ) → targets ≤ 16 → IsSound targets most l → get l.tree.nodes d ≡ Some n → n.dir ≡ true
    → place_of targets (part_named targets d (layout_at l d) name) ≡ Some target
    → lookup (holder (get (share targets l target) (part_named targets d (layout_at l d) name))) name ≡ child_get (named l.tree d name)

-- at the place of a stripe: the entries whose part it is
abbrev pub StripesAreTold : Type 0
StripesAreTold =
    (targets most : ℕ) (l : Laid) (d : Fid) (n : Node) (index target : ℕ) → targets ≤ 16 → IsSound targets most l → get l.tree.nodes d ≡ Some n → index < (layout_at l d).count
    → place_of targets (stripe_fid_of targets d (layout_at l d) index) ≡ Some target
    → get (share targets l target) (stripe_fid_of targets d (layout_at l d) index) ≡ Some (stripe_object d (layout_at l d) (names_of l.tree d) index)

-- a striped directory has no entry exactly where no stripe has one
abbrev pub EmptyIsTold : Type 0
EmptyIsTold =
    (l : Layout) (names : Names) → l.count ≢ 0
    → (((i : ℕ) → i < l.count → len (names_in l i names) ≡ 0) → names ≡ empty) × (names ≡ empty → (i : ℕ) → len (names_in l i names) ≡ 0)

-- how many entries so many parts have, from one on
abbrev pub count_from : Layout → Names → ℕ → ℕ → ℕ
count_from l names index zero = 0
count_from l names index (suc n) = len (names_in l index names) + count_from l names (index + 1) n

-- a striped directory has as many entries as its parts together
abbrev pub CountsAreTold : Type 0
CountsAreTold = (l : Layout) (names : Names) → l.count ≢ 0 → len names ≡ count_from l names 0 l.count

-- what all parts tell of the entries: the first 33 of each
abbrev pub told_names : Layout → Names → List (List ℕ × Fid)
told_names l names = flat_map (λ index. take 33 (entries (names_in l index names))) (range_with_len 0 l.count)

-- That says whether there are more than 32; and if not, it is all entries, which their map gives by their names.
abbrev pub AllNamesAreTold : Type 0
AllNamesAreTold =
    (l : Layout) (names : Names) → l.count ≢ 0
    → (nat_lt 32 (length (told_names l names)) ≡ nat_lt 32 (len names)) × (nat_lt 32 (len names) ≡ false → from_entries (told_names l names) ≡ names)
