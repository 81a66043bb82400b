-- What the updates of each change do to all objects.
use Rattle.std.proofs.Common.{◌≡◌, ◌≢◌, ◌≤◌, ◌<◌, ◌^◌, ◌==◌, ◌&&◌, nat_le, if◌then◌else◌, ℕ, zero, suc, Bool, true, false, cond, List, [], ◌∷◌, ◌++◌, map, Some, None, inl, inr, refl, ap, ◌∙◌, arith}
use Rattle.std.proofs.lemmas.Bool.Decides.{eqb_tells}
use Rattle.std.specs.List.{range_with_len, flat_map}
use Rattle.std.specs.FinMap.{empty, get, insert, remove, entries}
use Rattle.fid_space.specs.declared.fid.Fid.{Fid}
use Rattle.fid_space.specs.FidText.{IsFid}
use Rattle.tree_model.specs.declared.node.Node.{Node}
use Rattle.tree_model.specs.Tree.{Names}
use Rattle.tree_model.specs.Changes.{PutNode, DropNode, PutName, DropName, NextLayout, MoveNames}
use Rattle.tree_model.specs.Keys.{Layout, Laid, layout_with, plain_layout, laid_after}
use Rattle.out_update.specs.declared.update.Update.{Update}
use Rattle.out_update.specs.declared.update.Kind.{Kind}
use Rattle.out_update.specs.declared.update.Kind.TheVariants as kind
use Rattle.striped_dir.specs.Layouts.{FitsLayout}
use Rattle.striped_dir.specs.Parts.{part_of_name, create_of, destroy_of}
use Rattle.object_store.specs.Bodies.{is_allowed}
use Rattle.tree_shares.specs.Shares.{body_of, directory_body, node_object, stripe_fid_of}
use Rattle.tree_shares.specs.Updates.{update, part_named, inserted, deleted, created_node, created_stripes, destroyed_stripes, moved_entry, migrate_updates}
use Rattle.tree_shares.proofs.Effects.{effect}
use Rattle.tree_shares.proofs.Owner.{owner, owner_of_node, owner_of_stripe, Clients}
use Rattle.tree_shares.proofs.Here.{here_node, here_created, here_destroyed, here_inserted, here_deleted}
use Rattle.tree_shares.proofs.Migrated.{here_migrated}
use Rattle.tree_shares.proofs.Nodes.{effect_last}
use Rattle.tree_shares.proofs.Chains.{Goes, AreOf, at_one}
use Rattle.tree_sound.proofs.Basics.{same}
use Rattle.tree_sound.proofs.Steps.{Has, OnlyAt, put_node_has, put_node_only, drop_node_has, drop_node_only, put_name_has, put_name_only, drop_name_has, drop_name_only, next_layout_has, next_layout_only}

-- whose objects the updates are

all_both : (f : Fid) (us vs : List Update) → AreOf f us → AreOf f vs → AreOf f (us ++ vs)
all_both f [] vs a b = b
all_both f (u ∷ us) vs a b = (a.0, all_both f us vs a.1 b)

module _ (targets batch : ℕ) (d : Fid) (l : Layout) where
  creates_of : Clients d → (is : List ℕ) → AreOf d (map (λ i. create_of batch d i (stripe_fid_of targets d l i)) is)
  creates_of c [] = tt
  creates_of c (i ∷ is) = (owner_of_stripe targets d l i c, creates_of c is)

  destroys_of : Clients d → (is : List ℕ) → AreOf d (map (λ i. destroy_of batch (stripe_fid_of targets d l i)) is)
  destroys_of c [] = tt
  destroys_of c (i ∷ is) = (owner_of_stripe targets d l i c, destroys_of c is)

  created_at_count : (n : ℕ) → (n ≢ 0 → Clients d) → AreOf d (map (λ i. create_of batch d i (stripe_fid_of targets d l i)) (range_with_len 0 n))
  created_at_count zero c = tt
  created_at_count (suc n) c = creates_of (c (λ (e : suc n ≡ 0). absurd (omega (arith, e)))) (range_with_len 0 (suc n))

  destroyed_at_count : (n : ℕ) → (n ≢ 0 → Clients d) → AreOf d (map (λ i. destroy_of batch (stripe_fid_of targets d l i)) (range_with_len 0 n))
  destroyed_at_count zero c = tt
  destroyed_at_count (suc n) c = destroys_of (c (λ (e : suc n ≡ 0). absurd (omega (arith, e)))) (range_with_len 0 (suc n))

  pub owner_of_entry : (x : List ℕ) → d.ver ≡ 0 → (l.count ≢ 0 → Clients d) → owner (part_named targets d l x) ≡ d
  owner_of_entry x v c =
      elim (eqb_tells l.count 0) [
        | inl h ↦ ap (λ b. owner (cond b d (stripe_fid_of targets d l (part_of_name l x)))) h.0 ∙ owner_of_node d v
        | inr h ↦ ap (λ b. owner (cond b d (stripe_fid_of targets d l (part_of_name l x)))) h.0 ∙ owner_of_stripe targets d l (part_of_name l x) (c h.1)
      ]

moves_of : (targets batch : ℕ) (d : Fid) (old new : Layout) → d.ver ≡ 0 → (old.count ≢ 0 → Clients d) → (new.count ≢ 0 → Clients d) → (es : List (List ℕ × Fid)) → AreOf d (flat_map (moved_entry targets batch d old new) es)
moves_of targets batch d old new v c b [] = tt
moves_of targets batch d old new v c b (e ∷ es) =
    all_both d (moved_entry targets batch d old new e) (flat_map (moved_entry targets batch d old new) es) (one (old.count == 0)) (moves_of targets batch d old new v c b es)
  where
    one : (p : Bool) → AreOf d (if p then deleted targets batch d old e.0 ∷ inserted targets batch d new e.0 e.1 ∷ [] else inserted targets batch d new e.0 e.1 ∷ [])
    one true = (owner_of_entry targets batch d old e.0 v c, (owner_of_entry targets batch d new e.0 v b, tt))
    one false = (owner_of_entry targets batch d new e.0 v b, tt)

-- ---- each change

pub goes_node : (targets : ℕ) (k : Kind) (batch : ℕ) (f : Fid) (ps : List (List ℕ)) (l : Laid) (n m : Node) (ly : Layout) (names : Names) → Has l f (Some n) ly names → f.ver ≡ 0
    → effect (update k batch f ps) (Some (node_object n ly names)) ≡ Some (node_object m ly names) → Goes targets (update k batch f ps ∷ []) l (laid_after l (PutNode f m))
goes_node targets k batch f ps l n m ly names has v h =
    at_one targets (update k batch f ps ∷ []) l (laid_after l (PutNode f m)) f (Some n) (Some m) ly ly names names has (put_node_has l f n m (Some n) ly names has) (put_node_only l f m) (owner_of_node f v, tt)
    (λ q e. here_node targets k batch f ps q n m ly names h)

pub goes_created : (targets batch : ℕ) (f : Fid) (n : Node) (ly : Layout) (l m : Laid) → Has l f None plain_layout empty → Has m f (Some n) ly empty → OnlyAt l m f → f.ver ≡ 0 → IsFid f
    → (ly.count ≢ 0 → Clients f) → ly.count ≤ 16 → is_allowed (body_of n ly) ≡ true → (body_of n ly).uid < 2 ^ 32 → (body_of n ly).gid < 2 ^ 32 → IsFid (body_of n ly).fid → n.xattrs ≡ empty
    → Goes targets (created_node batch f n ly ∷ created_stripes targets batch f ly) l m
goes_created targets batch f n ly l m was is others v fits c few ok u g p bare =
    at_one targets (created_node batch f n ly ∷ created_stripes targets batch f ly) l m f None (Some n) plain_layout ly empty empty was is others
    (owner_of_node f v, created_at_count targets batch f ly ly.count c)
    (λ q e. here_created targets batch f q n ly v fits few ok u g p bare)

pub goes_inserted : (targets batch : ℕ) (d : Fid) (x : List ℕ) (f : Fid) (l : Laid) (n : Node) (ly : Layout) (names : Names) → Has l d (Some n) ly names → d.ver ≡ 0 → (ly.count ≢ 0 → Clients d) → IsFid f
    → Goes targets (inserted targets batch d ly x f ∷ []) l (laid_after l (PutName d x f))
goes_inserted targets batch d x f l n ly names has v c fits =
    at_one targets (inserted targets batch d ly x f ∷ []) l (laid_after l (PutName d x f)) d (Some n) (Some n) ly ly names (insert names x f) has (put_name_has l d x f (Some n) ly names has) (put_name_only l d x f)
    (owner_of_entry targets batch d ly x v c, tt) (λ q e. here_inserted targets batch d x f q n ly names v fits)

pub goes_deleted : (targets batch : ℕ) (d : Fid) (x : List ℕ) (l : Laid) (n : Node) (ly : Layout) (names : Names) → Has l d (Some n) ly names → d.ver ≡ 0 → (ly.count ≢ 0 → Clients d)
    → Goes targets (deleted targets batch d ly x ∷ []) l (laid_after l (DropName d x))
goes_deleted targets batch d x l n ly names has v c =
    at_one targets (deleted targets batch d ly x ∷ []) l (laid_after l (DropName d x)) d (Some n) (Some n) ly ly names (remove names x) has (drop_name_has l d x (Some n) ly names has) (drop_name_only l d x)
    (owner_of_entry targets batch d ly x v c, tt) (λ q e. here_deleted targets batch d x q n ly names v)

pub goes_destroyed : (targets batch : ℕ) (f : Fid) (l : Laid) (n : Node) (ly : Layout) (names : Names) → Has l f (Some n) ly names → f.ver ≡ 0 → (ly.count ≢ 0 → Clients f)
    → Goes targets (destroyed_stripes targets batch f ly ++ destroy_of batch f ∷ []) l (laid_after l (DropNode f))
goes_destroyed targets batch f l n ly names has v c =
    at_one targets (destroyed_stripes targets batch f ly ++ destroy_of batch f ∷ []) l (laid_after l (DropNode f)) f (Some n) None ly plain_layout names names has (drop_node_has l f names has.names_are) (drop_node_only l f)
    (all_both f (destroyed_stripes targets batch f ly) (destroy_of batch f ∷ []) (destroyed_at_count targets batch f ly ly.count c) (owner_of_node f v, tt))
    (λ q e. here_destroyed targets batch f q n ly names)

-- a file without stripes whose last link goes
pub goes_last : (targets batch : ℕ) (f : Fid) (l : Laid) (n : Node) (names : Names) → Has l f (Some n) plain_layout names → f.ver ≡ 0 → n.dir ≡ false → nat_le n.links 1 ≡ true
    → Goes targets (update kind.RefDel batch f [] ∷ []) l (laid_after l (DropNode f))
goes_last targets batch f l n names has v file last =
    at_one targets (update kind.RefDel batch f [] ∷ []) l (laid_after l (DropNode f)) f (Some n) None plain_layout plain_layout names names has (drop_node_has l f names has.names_are) (drop_node_only l f)
    (owner_of_node f v, tt) (λ q e. gone (same q f))
  where
    gone : (b : Bool) → cond b (effect (update kind.RefDel batch f []) (cond b (Some (node_object n plain_layout names)) None)) (cond b (Some (node_object n plain_layout names)) None) ≡ None
    gone true = effect_last batch f n plain_layout names file last
    gone false = refl

pub goes_migrated : (targets batch : ℕ) (d : Fid) (l : Laid) (n : Node) (old : Layout) (names : Names) (count index : ℕ) → Has l d (Some n) old names → d.ver ≡ 0 → IsFid d → n.dir ≡ true → Clients d
    → old.count ≤ 16 → (layout_with count index (suc old.generation)).count ≤ 16 → (layout_with count index (suc old.generation)).generation ≡ suc old.generation
    → FitsLayout (layout_with count index (suc old.generation)) → is_allowed (directory_body n (layout_with count index (suc old.generation))) ≡ true
    → ((x : List ℕ) (c : Fid) → get names x ≡ Some c → IsFid c)
    → Goes targets (migrate_updates targets batch d old (layout_with count index (suc old.generation)) names) l (laid_after (laid_after l (NextLayout d count index)) (MoveNames d))
goes_migrated targets batch d l n old names count index has v fits dir c few_old few newer fits_new ok kids =
    let new = layout_with count index (suc old.generation) in
    at_one targets (migrate_updates targets batch d old new names) l (laid_after l (NextLayout d count index)) d (Some n) (Some n) old new names names has
    (next_layout_has l d count index (Some n) old names has) (next_layout_only l d count index) (
      owner_of_node d v,
      all_both d (created_stripes targets batch d new) _ (created_at_count targets batch d new new.count (λ z. c))
          (all_both d _ (destroyed_stripes targets batch d old) (moves ((old.count == 0) && (new.count == 0))) (destroyed_at_count targets batch d old old.count (λ z. c))),
    )
    (λ q e. here_migrated targets batch d q n old new names v fits dir few_old few newer fits_new ok kids)
  where
    moves : (b : Bool) → AreOf d (if b then [] else flat_map (moved_entry targets batch d old (layout_with count index (suc old.generation))) (entries names))
    moves true = tt
    moves false = moves_of targets batch d old (layout_with count index (suc old.generation)) v (λ z. c) (λ z. c) (entries names)
