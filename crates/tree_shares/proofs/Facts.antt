-- What a sound tree has at a FID, as objects need it.
use Rattle.std.proofs.Common.{◌≡◌, ◌≢◌, ◌≤◌, ◌<◌, ◌==◌, ◌&&◌, nat_le, if◌then◌else◌, ⊎_elim, ℕ, zero, suc, Bool, true, false, List, Some, inl, inr, refl, ap, ◌∙◌, arith}
use Rattle.std.proofs.lemmas.Bool.Decides.{nat_tests}
use Rattle.std.specs.FinMap.{get}
use Rattle.fid_space.specs.declared.fid.Fid.{Fid}
use Rattle.fid_space.specs.FidText.{IsFid}
use Rattle.fid_space.specs.Places.{is_client}
use Rattle.tree_model.specs.declared.node.Node.{Node}
use Rattle.tree_model.specs.Names.{IsName}
use Rattle.tree_model.specs.Tree.{Names, names_of, same_fid, root_fid, no_fid}
use Rattle.tree_model.specs.Keys.{Layout, Laid, layout_at, plain_layout}
use Rattle.object_store.specs.Bodies.{is_allowed, may_lay}
use Rattle.tree_sound.specs.Sound.{IsSound, IsSoundNode, IsNodeFid, IsLaid}
use Rattle.tree_sound.proofs.Basics.{which, no_self}
use Rattle.tree_sound.proofs.Keeping.{sound_node}
use Rattle.tree_sound.proofs.Story.{there_named}
use Rattle.tree_shares.specs.Shares.{kept, body_of, file_body, directory_body}

pub record Facts (targets most : ℕ) (f : Fid) (n : Node) (l : Layout) (names : Names) : Type 0 where
  pub fid : IsFid f
  pub version : f.ver ≡ 0
  pub known : same_fid f root_fid ≡ false → is_client targets f ≡ true
  pub client : l.count ≢ 0 → is_client targets f ≡ true
  pub stripes : l.count ≤ targets
  pub bare : n.dir ≡ false → l ≡ plain_layout
  pub children : (x : List ℕ) (c : Fid) → get names x ≡ Some c → IsFid c
  pub are_names : (x : List ℕ) (c : Fid) → get names x ≡ Some c → IsName x
  pub migrations : l.generation ≤ most
  pub allowed : targets ≤ 16 → most ≤ 0x0ffffffe → is_allowed (body_of n l) ≡ true

client_version : (targets : ℕ) (f : Fid) → is_client targets f ≡ true → f.ver ≡ 0
client_version targets f h = grind (arith, nat_tests)

version_of : (targets : ℕ) (f : Fid) → IsNodeFid targets f → f.ver ≡ 0
version_of targets f (inl e) = ap (λ (g : Fid). g.ver) e
version_of targets f (inr c) = client_version targets f c

known_of : (targets : ℕ) (f : Fid) → IsNodeFid targets f → same_fid f root_fid ≡ false → is_client targets f ≡ true
known_of targets f (inl e) other = absurd (no_self f root_fid other e)
known_of targets f (inr c) other = c

-- a layout of a directory may stand
pub may_stand : (targets most : ℕ) (f : Fid) (l : Layout) → targets ≤ 16 → most ≤ 0x0ffffffe → IsLaid targets most f l → may_lay (kept l) ≡ true
may_stand targets most f l few bound is = by_count l.count l.start l.generation is.few is.first is.plain is.migrations
  where
    by_count : (c s g : ℕ) → c ≤ targets → (c ≢ 0 → s < targets) → (c ≡ 0 → s ≡ 0) → g ≤ most → may_lay (record { count = c; start = s; generation = g }) ≡ true
    by_count zero s g low first plain high = let e = plain refl in grind (arith, nat_tests)
    by_count (suc c) s g low first plain high = let e = first (λ (z : suc c ≡ 0). absurd (omega (arith, z))) in grind (arith, nat_tests)

file_stands : (n : Node) → n.mode ≤ 4095 → 1 ≤ n.links → n.links ≤ 65000 → n.parent ≡ no_fid → is_allowed (file_body n) ≡ true
unfolding is_allowed
file_stands n mode low high parent = grind (arith, nat_tests)

directory_stands : (n : Node) (l : Layout) → n.mode ≤ 4095 → n.links ≡ 2 → may_lay (kept l) ≡ true → is_allowed (directory_body n l) ≡ true
unfolding is_allowed
directory_stands n l mode two lay = three (nat_le n.mode 4095) (n.links == 2) (may_lay (kept l)) (grind (arith, nat_tests)) (ap (λ k. k == 2) two) lay
  where
    three : (a b c : Bool) → a ≡ true → b ≡ true → c ≡ true → (a && (b && (c && true))) ≡ true
    three a b c x y z = (λ i. x i && (y i && (z i && true)))

body_stands : (targets most : ℕ) (f : Fid) (n : Node) (l : Layout) (names : Names) → IsSoundNode targets most f n l names → targets ≤ 16 → most ≤ 0x0ffffffe → is_allowed (body_of n l) ≡ true
body_stands targets most f n l names s few bound = ⊎_elim
    (λ (d : n.dir ≡ true). ap (λ b. is_allowed (if b then directory_body n l else file_body n)) d ∙ directory_stands n l s.node.mode (s.node.directory d) (may_stand targets most f l few bound s.layout))
    (λ (d : n.dir ≡ false).
    let links = s.node.file d in
    ap (λ b. is_allowed (if b then directory_body n l else file_body n)) d ∙ file_stands n s.node.mode links.0 links.1 links.2)
    (which n.dir)

pub facts : (targets most : ℕ) (l : Laid) → IsSound targets most l → (f : Fid) (n : Node) → get l.tree.nodes f ≡ Some n → Facts targets most f n (layout_at l f) (names_of l.tree f)
facts targets most l sound f n e =
    let s = sound_node targets most l sound.each f n e in
    record {
      fid = s.fid;
      version = version_of targets f s.called;
      known = known_of targets f s.called;
      client = s.layout.client;
      stripes = s.layout.few;
      bare = λ d. (s.bare d).0;
      children = λ x c h. let k = there_named targets most l sound f x c h in (sound_node targets most l sound.each c k.0 k.1).fid;
      are_names = s.spelled;
      migrations = s.layout.migrations;
      allowed = λ few bound. body_stands targets most f n (layout_at l f) (names_of l.tree f) s few bound;
    }
