-- What shares tell of a tree.
use Rattle.std.proofs.Common.{◌≡◌, ◌≤◌, ◌<◌, ◌||◌, nat_lt, if◌then◌else◌, ℕ, Bool, true, false, cond, List, [], ◌∷◌, Option, Some, None, inl, inr, refl, sym, ap, ◌∙◌, arith}
use Rattle.std.proofs.lemmas.Bool.{eq-eqb}
use Rattle.std.proofs.lemmas.Bool.Decides.{eqb_tells}
use Rattle.std.specs.Option.{option_map}
use Rattle.std.specs.FinMap.{get, find, len, empty, empty_of_len, same_map, len-empty}
use Rattle.tree_model.specs.Fids.{fid_cmp, name_cmp}
use Rattle.tree_model.proofs.Maps.{names_total, exact_names}
use Rattle.fid_space.specs.declared.fid.Fid.{Fid}
use Rattle.fid_space.specs.Places.{place_of}
use Rattle.tree_model.specs.declared.node.Node.{Node}
use Rattle.tree_model.specs.Tree.{Names, names_of, named}
use Rattle.tree_model.specs.Keys.{Layout, Laid, layout_at}
use Rattle.striped_dir.specs.Parts.{part_of_name}
use Rattle.object_store.specs.Reads.{node, holder, lookup, child_get}
use Rattle.tree_shares.specs.Shares.{file_body, directory_body, own_names, names_in, node_object, stripe_object, stripe_fid_of, all_objects, share, is_at}
use Rattle.tree_shares.specs.Updates.{part_named}
use Rattle.tree_sound.specs.Sound.{IsSound}
use Rattle.tree_shares.specs.Telling.{NodesAreTold, NamesAreTold, StripesAreTold, EmptyIsTold}
use Rattle.tree_shares.proofs.Owner.{owner, index_in, index_of_stripe, owner_of_node, owner_of_stripe, directory_of, client_facts}
use Rattle.tree_shares.proofs.Pointwise.{got_share}
use Rattle.tree_shares.proofs.Finding.{among, stripe_in, object_in, object_from, object_at, found_object}
use Rattle.tree_shares.proofs.Here.{node_is_no_stripe, stripe_is_among, got_in, part_below, names_in_none}
use Rattle.tree_model.proofs.Fids.{told_same}
use Rattle.tree_sound.proofs.Basics.{same, by_bool, not_both, same_itself}
use Rattle.tree_shares.proofs.Facts.{facts}

module _ (targets most : ℕ) (few : targets ≤ 16) (l : Laid) (sound : IsSound targets most l) where
  -- the share at the place of a FID has the object
  at_place : (f : Fid) (target : ℕ) → place_of targets f ≡ Some target → get (share targets l target) f ≡ object_at targets l f
  at_place f target is =
      let found = find fid_cmp f (all_objects targets l) in
      got_share targets l target f ∙ ap (λ p. cond (is_at target p) found None) is
      ∙ ap (λ b. cond b found None) (eq-eqb target target refl) ∙ found_object targets most few l sound f

  shown : (n : Node) (ly : Layout) (names : Names) → node (Some (node_object n ly names)) ≡ Some (node_object n ly names)
  shown n ly names = by_dir n.dir
    where
      by_dir : (b : Bool) → node (Some (record { body = if b then directory_body n ly else file_body n; entries = own_names ly names; attributes = n.xattrs })) ≡ Some (record { body = if b then directory_body n ly else file_body n; entries = own_names ly names; attributes = n.xattrs })
      by_dir true = refl
      by_dir false = refl

  -- a node's own FID
  told_node : (f : Fid) (o : Option Node) (ly : Layout) (names : Names) → node (object_in targets f f o ly names) ≡ option_map (λ n. node_object n ly names) o
  told_node f None ly names = refl
  told_node f (Some n) ly names = ap (λ b. node (cond b (Some (node_object n ly names)) (stripe_in targets f ly names f))) (same_itself f) ∙ shown n ly names

  -- another FID is no node's
  told_other : (f d : Fid) (o : Option Node) (ly : Layout) (names : Names) → same f d ≡ false → node (object_in targets f d o ly names) ≡ None
  told_other f d None ly names h = refl
  told_other f d (Some n) ly names h = ap (λ b. node (cond b (Some (node_object n ly names)) (stripe_in targets d ly names f))) h ∙ either (among targets d ly f)
    where
      either : (b : Bool) → node (cond b (Some (stripe_object d ly names (index_in ly f))) None) ≡ None
      either true = refl
      either false = refl

  no_version : (f : Fid) (o : Option Node) → get l.tree.nodes f ≡ o → nat_lt 0 f.ver ≡ true → o ≡ None
  no_version f None e h = refl
  no_version f (Some n) e h = not_both (nat_lt 0 f.ver) h (ap (λ v. nat_lt 0 v) (facts targets most l sound f n e).version)

  told : (f : Fid) → node (object_at targets l f) ≡ option_map (λ n. node_object n (layout_at l f) (names_of l.tree f)) (get l.tree.nodes f)
  unfolding owner
  told f =
      by_bool (nat_lt 0 f.ver)
      (λ h.
      let d = directory_of f in
      let is : owner f ≡ d = ap (λ b. cond b (directory_of f) f) h in
      let apart : same f d ≡ false = by_bool (same f d) (λ s. not_both (nat_lt 0 f.ver) h (ap (λ (x : Fid). nat_lt 0 x.ver) (told_same f d s))) (λ s. s) in
      ap (λ x. node (object_from targets l f x)) is ∙ told_other f d (get l.tree.nodes d) (layout_at l d) (names_of l.tree d) apart
      ∙ sym (ap (λ o. option_map (λ n. node_object n (layout_at l f) (names_of l.tree f)) o) (no_version f (get l.tree.nodes f) refl h)))
      (λ h.
      let is : owner f ≡ f = ap (λ b. cond b (directory_of f) f) h in
      ap (λ x. node (object_from targets l f x)) is ∙ told_node f (get l.tree.nodes f) (layout_at l f) (names_of l.tree f))

  told_stripe : (d : Fid) (n : Node) (i : ℕ) → get l.tree.nodes d ≡ Some n → i < (layout_at l d).count → object_at targets l (stripe_fid_of targets d (layout_at l d) i) ≡ Some (stripe_object d (layout_at l d) (names_of l.tree d) i)
  told_stripe d n i e low =
      let ly = layout_at l d in
      let names = names_of l.tree d in
      let f = stripe_fid_of targets d ly i in
      let s = facts targets most l sound d n e in
      let c = client_facts targets d few (s.client (λ (z : ly.count ≡ 0). omega (arith, z, low))) in
      let apart : same f d ≡ false = by_bool (same f d) (λ z. not_both true refl (sym (ap (λ b. b || false) (same_itself f)) ∙ node_is_no_stripe targets d ly f d s.version z (i ∷ []))) (λ z. z) in
      ap (λ x. object_from targets l f x) (owner_of_stripe targets d ly i c)
      ∙ ap (λ o. object_in targets f d o ly names) e
      ∙ ap (λ b. cond b (Some (node_object n ly names)) (stripe_in targets d ly names f)) apart
      ∙ ap (λ b. cond b (Some (stripe_object d ly names (index_in ly f))) None) (stripe_is_among targets d ly f i low (same_itself f))
      ∙ ap (λ k. Some (stripe_object d ly names k)) (index_of_stripe targets d ly i)

  told_name : (d : Fid) (n : Node) (x : List ℕ) → get l.tree.nodes d ≡ Some n → n.dir ≡ true → lookup (holder (object_at targets l (part_named targets d (layout_at l d) x))) x ≡ child_get (named l.tree d x)
  told_name d n x e dir =
      let ly = layout_at l d in
      let names = names_of l.tree d in
      let p = stripe_fid_of targets d ly (part_of_name ly x) in
      let left : Bool → _ = λ b. lookup (holder (object_at targets l (cond b d p))) x in
      elim (eqb_tells ly.count 0) [
        | inl h ↦
            ap left h.0 ∙ ap (λ y. lookup (holder (object_from targets l d y)) x) (owner_of_node d (facts targets most l sound d n e).version)
            ∙ ap (λ o. lookup (holder (object_in targets d d o ly names)) x) e
            ∙ ap (λ b. lookup (holder (cond b (Some (node_object n ly names)) (stripe_in targets d ly names d))) x) (same_itself d)
            ∙ ap (λ b. lookup (holder (Some (record { body = if b then directory_body n ly else file_body n; entries = own_names ly names; attributes = n.xattrs }))) x) dir
            ∙ ap (λ b. child_get (get (cond b names empty) x)) h.0
        | inr h ↦
            ap left h.0 ∙ ap (λ o. lookup (holder o) x) (told_stripe d n (part_of_name ly x) e (part_below ly.count ly.start ly.generation x h.1))
            ∙ ap child_get (got_in ly (part_of_name ly x) names x ∙ ap (λ b. cond b (get names x) None) (eq-eqb (part_of_name ly x) (part_of_name ly x) refl))
      ]

pub nodes_told : NodesAreTold
nodes_told targets most l f target few sound is = ap node (at_place targets most few l sound f target is) ∙ told targets most few l sound f

pub names_told : NamesAreTold
names_told targets most l d n x target few sound e dir is =
    ap (λ o. lookup (holder o) x) (at_place targets most few l sound (part_named targets d (layout_at l d) x) target is) ∙ told_name targets most few l sound d n x e dir

pub stripes_told : StripesAreTold
stripes_told targets most l d n i target few sound e low is =
    at_place targets most few l sound (stripe_fid_of targets d (layout_at l d) i) target is ∙ told_stripe targets most few l sound d n i e low

pub empty_told : EmptyIsTold
empty_told l names some = (
  λ none. same_map names_total exact_names _ _ (λ x.
      let p = part_of_name l x in
      let bare : names_in l p names ≡ empty = empty_of_len (names_in l p names) (none p (part_below l.count l.start l.generation x some)) in
      sym (got_in l p names x ∙ ap (λ b. cond b (get names x) None) (eq-eqb p p refl)) ∙ ap (λ (m : Names). get m x) bare),
  λ e i. ap (λ (m : Names). len (names_in l i m)) e ∙ ap (λ (m : Names). len m) (names_in_none l i) ∙ len-empty name_cmp Fid,
)
