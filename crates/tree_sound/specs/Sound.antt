-- Which trees with layouts a cluster has.
use Rattle.std.specs.Prelude.{◌≡◌, ◌≢◌, ◌≤◌, ◌<◌, ◌^◌, ◌⊎◌, ℕ, true, false, length, List, [], ◌∷◌, Option, Some, None, if◌then◌else◌}
use Rattle.std.specs.FinMap.{get, len, empty}
use Rattle.fid_space.specs.declared.fid.Fid.{Fid}
use Rattle.fid_space.specs.FidText.{IsFid}
use Rattle.fid_space.specs.Places.{is_client}
use Rattle.tree_model.specs.declared.node.Node.{Node}
use Rattle.tree_model.specs.Tree.{Names, names_of, named, root_fid, no_fid, same_fid}
use Rattle.tree_model.specs.Names.{IsName}
use Rattle.tree_model.specs.OpText.{IsXattrValue}
use Rattle.tree_model.specs.Step.{is_dir}
use Rattle.tree_model.specs.Keys.{Layout, Laid, layout_at, plain_layout}

-- ---- what stands at one FID

-- what a node is called: the root, or as a client names it
abbrev pub IsNodeFid : ℕ → Fid → Type 0
IsNodeFid targets f = (f ≡ root_fid) ⊎ (is_client targets f ≡ true)

-- A directory has two links; a file has 1 to 65,000, and no parent. Twelve bits of permission, an owner and a
-- group of 32 bits, at most 16 extended attributes.
pub record FitsNode (n : Node) : Type 0 where
  pub directory : n.dir ≡ true → n.links ≡ 2
  pub file : n.dir ≡ false → (1 ≤ n.links) × (n.links ≤ 65000) × (n.parent ≡ no_fid)
  pub mode : n.mode ≤ 4095
  pub uid : n.uid < 2 ^ 32
  pub gid : n.gid < 2 ^ 32
  pub few : len n.xattrs ≤ 16
  pub each : (x v : List ℕ) → get n.xattrs x ≡ Some v → IsName x × IsXattrValue v

-- At most as many stripes as targets, and so many migrations at most. What has stripes a client made.
pub record IsLaid (targets most : ℕ) (f : Fid) (l : Layout) : Type 0 where
  pub few : l.count ≤ targets
  pub first : l.count ≢ 0 → l.start < targets
  pub plain : l.count ≡ 0 → l.start ≡ 0
  pub client : l.count ≢ 0 → is_client targets f ≡ true
  pub migrations : l.generation ≤ most

-- a file has no stripes and no entries
pub record IsSoundNode (targets most : ℕ) (f : Fid) (n : Node) (l : Layout) (names : Names) : Type 0 where
  pub called : IsNodeFid targets f
  pub fid : IsFid f
  pub node : FitsNode n
  pub layout : IsLaid targets most f l
  pub bare : n.dir ≡ false → (l ≡ plain_layout) × (names ≡ empty)
  pub spelled : (x : List ℕ) (c : Fid) → get names x ≡ Some c → IsName x

-- where no node is, there are no stripes and no entries
abbrev pub IsSoundAt : ℕ → ℕ → Fid → Option Node → Layout → Names → Type 0
IsSoundAt targets most f None l names = (l ≡ plain_layout) × (names ≡ empty)
IsSoundAt targets most f (Some n) l names = IsSoundNode targets most f n l names

abbrev pub AllAreSound : ℕ → ℕ → Laid → Type 0
AllAreSound targets most l = (f : Fid) → IsSoundAt targets most f (get l.tree.nodes f) (layout_at l f) (names_of l.tree f)

-- ---- how many names a node has

abbrev pub Place : Type 0
Place = Fid × List ℕ

abbrev pub Holds : List Place → Place → Type 0
Holds [] p = ⊥
Holds (q ∷ qs) p = (q ≡ p) ⊎ Holds qs p

-- no place stands twice
abbrev pub AreDistinct : List Place → Type 0
AreDistinct [] = Unit {0}
AreDistinct (q ∷ qs) = (Holds qs q → ⊥) × AreDistinct qs

-- the places that name a FID are so many
pub record Counted (names : Fid → List ℕ → Option Fid) (f : Fid) (count : ℕ) : Type 0 where
  pub places : List Place
  pub distinct : AreDistinct places
  pub all : (d : Fid) (x : List ℕ) → names d x ≡ Some f → Holds places (d, x)
  pub only : (d : Fid) (x : List ℕ) → Holds places (d, x) → names d x ≡ Some f
  pub many : length places ≡ count

-- a file has as many names as links, a directory one, the root and what isn't there none
abbrev pub names_due : Fid → Option Node → ℕ
names_due f None = 0
names_due f (Some n) = if n.dir then (if same_fid f root_fid then 0 else 1) else n.links

-- ---- the whole tree

-- Each FID has what it may have, and as many names as are due. The parent of a directory is the directory that
-- names it; the root is a directory, and its own parent. No layout was migrated more often than `most` says.
pub record IsSound (targets most : ℕ) (l : Laid) : Type 0 where
  pub each : AllAreSound targets most l
  pub counted : (f : Fid) → Counted (named l.tree) f (names_due f (get l.tree.nodes f))
  pub inside : (d : Fid) (x : List ℕ) (f : Fid) (n : Node) → named l.tree d x ≡ Some f → get l.tree.nodes f ≡ Some n → n.dir ≡ true → n.parent ≡ d
  pub root : is_dir (get l.tree.nodes root_fid) ≡ true
  pub above : (n : Node) → get l.tree.nodes root_fid ≡ Some n → n.parent ≡ root_fid
