-- The owners of objects have keys that are written or looked at.
use Rattle.std.proofs.Common.{◌≡◌, ◌≤◌, inl, inr, ⊎_elim, ℕ, true, false, if◌then◌else◌, Bool, List, [], ◌∷◌, ◌++◌, refl, sym, subst}
use Rattle.std.specs.FinMap.{get}
use Rattle.fid_space.specs.declared.fid.Fid.{Fid}
use Rattle.fid_space.specs.Places.{is_client, is_stripe}
use Rattle.tree_model.specs.Changes.{Change, PutNode, DropNode, PutName, DropName, NewLayout, NextLayout, MoveNames}
use Rattle.tree_model.specs.Keys.{Key, NodeKey, NameKey, AllKey, Layout, Laid, layout_at, layout_with, keys_of, keys_of_all}
use Rattle.tree_model.specs.Laws.{Among}
use Rattle.op_laws.specs.Objects.{stripes_of, parts_of, part_named, owner, stands, written_by}
use Rattle.tree_sound.specs.Sound.{IsNodeFid}
use Rattle.op_laws.proofs.Ground.{Ground}
use Rattle.op_laws.specs.Near.{IsOne, key_fid}
use Rattle.op_laws.specs.Laws.{IsAsked}
use Rattle.op_laws.proofs.Lists.{each_in}
use Rattle.op_laws.proofs.Names.{no_stripe, own_owner}
use Rattle.op_laws.proofs.Stripes.{name_has_part, part_is, of_stripe}
use Rattle.op_laws.proofs.Facts.{Licensed, Good, next_of}
use Rattle.op_laws.proofs.Places.{only, striped}
use Rattle.tree_sound.proofs.Basics.{In, in_either, dir_some}

among_first : (ks js : List Key) (k : Key) → Among ks k → Among (ks ++ js) k
among_first [] js k h = absurd h
among_first (i ∷ is) js k h = ⊎_elim (λ e. inl e) (λ m. inr (among_first is js k m)) h

among_last : (ks js : List Key) (k : Key) → Among js k → Among (ks ++ js) k
among_last [] js k h = h
among_last (i ∷ is) js k h = inr (among_last is js k h)

written_key : (cs : List Change) (c : Change) (k : Key) → In cs c → Among (keys_of c) k → Among (keys_of_all cs) k
written_key [] c k m h = absurd m
written_key (d ∷ cs) c k m h = ⊎_elim (λ e. among_first (keys_of d) (keys_of_all cs) k (subst (λ c. Among (keys_of c) k) (sym e) h)) (λ r. among_last (keys_of d) (keys_of_all cs) k (written_key cs c k r h)) m

module _ (targets : ℕ) (some : 1 ≤ targets) (few : targets ≤ 16) (l : Laid) (sound : Ground targets l) where
  node_owner : (f x : Fid) → IsNodeFid targets f → f ≡ x → f ≡ owner targets x
  node_owner f x h e = sym (subst (λ x. owner targets x ≡ f) e (own_owner targets f (no_stripe targets f h)))

  part_owner : (d x : Fid) → IsNodeFid targets d → In (parts_of targets d (layout_at l d)) x → d ≡ owner targets x
  part_owner d x h m = ⊎_elim (λ e. node_owner d x h e)
      (λ s. sym (of_stripe targets d (layout_at l d) x some few (striped targets some few l sound d x s).0 s).own)
      (part_is targets d (layout_at l d).count (layout_at l d).start (layout_at l d).generation x m)

  named_part : (d : Fid) (n : List ℕ) (x : Fid) → part_named targets d (layout_at l d) n ≡ x → In (parts_of targets d (layout_at l d)) x
  named_part d n x e = subst (λ y. In (parts_of targets d (layout_at l d)) y) e (name_has_part targets d (layout_at l d).count (layout_at l d).start (layout_at l d).generation n)

  -- an asked object
  pub asked_near : (k : Key) (x : Fid) → IsAsked targets l k → In (stands targets l k) x → key_fid k ≡ owner targets x
  asked_near (NodeKey f) x a m = by_test (is_stripe targets f) refl m
    where
      by_test : (b : Bool) → is_stripe targets f ≡ b → In (if b then [] else f ∷ []) x → f ≡ owner targets x
      by_test true e h = absurd h
      by_test false e h = sym (subst (λ x. owner targets x ≡ f) (only h) (own_owner targets f e))
  asked_near (NameKey d n) x a m = part_owner d x (sound.called d (dir_some (get l.tree.nodes d) a)) (named_part d n x (only m))
  asked_near (AllKey d) x a m = part_owner d x (sound.called d (dir_some (get l.tree.nodes d) a)) m

  module _ (looked : List Key) (cs : List Change) (good : Good targets l looked cs) where
    licence : (c : Change) → In cs c → Licensed targets l looked cs c
    licence c m = each_in (Licensed targets l looked cs) cs c good.each m

    abbrev HasKey : Fid → Type 0
    HasKey x = (w : Key) × Among (keys_of_all cs) w × (key_fid w ≡ owner targets x) × IsOne w

    by_key : (c : Change) (k : Key) (x : Fid) → In cs c → Among (keys_of c) k → IsOne k → key_fid k ≡ owner targets x → HasKey x
    by_key c k x m a o e = (k, written_key cs c k m a, e, o)

    stripe_owner : (d : Fid) (lay : Layout) (x : Fid) → is_client targets d ≡ true → In (stripes_of targets d lay) x → d ≡ owner targets x
    stripe_owner d lay x client s = sym (of_stripe targets d lay x some few client s).own

    pub written_near : (c : Change) (x : Fid) → In cs c → In (written_by targets l c) x → HasKey x
    written_near (PutNode f n) x m h = by_key (PutNode f n) (NodeKey f) x m (inl refl) tt (node_owner f x (licence (PutNode f n) m).1 (only h))
    written_near (DropNode f) x m h =
        by_key (DropNode f) (NodeKey f) x m (inl refl) tt (⊎_elim (λ e. node_owner f x (licence (DropNode f) m).1 e) (λ s. stripe_owner f (layout_at l f) x (striped targets some few l sound f x s).0 s) h)
    written_near (PutName d n f) x m h = by_key (PutName d n f) (NameKey d n) x m (inl refl) tt (part_owner d x (licence (PutName d n f) m).1 (named_part d n x (only h)))
    written_near (DropName d n) x m h = by_key (DropName d n) (NameKey d n) x m (inl refl) tt (part_owner d x (licence (DropName d n) m).1 (named_part d n x (only h)))
    written_near (NewLayout d c i) x m h =
        let client = (licence (NewLayout d c i) m).1 in
        by_key (NewLayout d c i) (NodeKey d) x m (inl refl) tt (⊎_elim (λ e. node_owner d x (inr client) e) (λ s. stripe_owner d (layout_with c i 0) x client s) h)
    written_near (NextLayout d c i) x m h =
        let client = (licence (NextLayout d c i) m).2 in
        let next = next_of targets l looked d c i in
        by_key (NextLayout d c i) (NodeKey d) x m (inl refl) tt (⊎_elim (λ e. node_owner d x (inr client) e)
        (λ s. ⊎_elim (λ a. stripe_owner d (layout_at l d) x client a) (λ b. stripe_owner d next x client b) (in_either (stripes_of targets d (layout_at l d)) (stripes_of targets d next) x s)) h)
    written_near (MoveNames d) x m h = absurd h
