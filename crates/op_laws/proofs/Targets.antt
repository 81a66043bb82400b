-- Each written object has a place, which takes part.
use Rattle.std.proofs.Common.{◌≡◌, ◌≢◌, ◌<◌, ◌≤◌, ◌+◌, ◌%◌, inr, ⊎_elim, ℕ, zero, suc, true, Some, List, refl, sym, ap, ◌∙◌, subst, arith}
use Rattle.std.proofs.Math.Nat.{mod-lt}
use Rattle.fid_space.specs.declared.fid.Fid.{Fid}
use Rattle.fid_space.specs.Places.{place_of, is_client}
use Rattle.fid_space.specs.Targets.{is_member}
use Rattle.tree_shares.proofs.Sets.{place_has, stripes_keep, stripes_have, changes_have}
use Rattle.tree_model.specs.declared.node.Node.{Node}
use Rattle.tree_model.specs.Changes.{Change, PutNode, DropNode, PutName, DropName, NewLayout, NextLayout, MoveNames}
use Rattle.tree_model.specs.Keys.{Key, Layout, Laid, layout_at, layout_with}
use Rattle.tree_model.specs.Participants.{with_place}
use Rattle.tree_model.specs.Striped.{fnv1a_64, stripe_target, entry_place, with_stripes, with_change, with_changes}
use Rattle.tree_shares.proofs.Written.{part_striped}
use Rattle.op_laws.specs.Objects.{stripes_of, part_named, written_by}
use Rattle.tree_sound.specs.Sound.{IsNodeFid}
use Rattle.op_laws.proofs.Ground.{Ground}
use Rattle.op_laws.proofs.Lists.{each_in}
use Rattle.op_laws.proofs.Names.{node_placed, stripe_placed}
use Rattle.op_laws.proofs.Stripes.{of_stripe}
use Rattle.op_laws.proofs.Facts.{Licensed, Good, next_of}
use Rattle.op_laws.proofs.Places.{striped, only, count_with}
use Rattle.tree_sound.proofs.Basics.{In, in_either}

-- the first target doesn't hang on the generation
start_with : (c i g h : ℕ) → (layout_with c i g).start ≡ (layout_with c i h).start
start_with zero i g h = refl
start_with (suc c) i g h = refl

module _ (targets : ℕ) (l : Laid) where
  module _ (some : 1 ≤ targets) (few : targets ≤ 16) (sound : Ground targets l) (looked : List Key) (cs : List Change) (good : Good targets l looked cs) where
    abbrev Takes : Fid → Type 0
    Takes x = (t : ℕ) × (place_of targets x ≡ Some t) × ((s : ℕ) → is_member (with_changes targets l s cs) t ≡ true)

    takes : (c : Change) (x : Fid) (t : ℕ) → In cs c → place_of targets x ≡ Some t → ((r : ℕ) → is_member (with_change targets l r c) t ≡ true) → Takes x
    takes c x t m e h = (t, e, λ s. changes_have targets l s cs c t m h)

    node_takes : (c : Change) (f x : Fid) → In cs c → IsNodeFid targets f → f ≡ x → ((r t : ℕ) → place_of targets f ≡ Some t → is_member (with_change targets l r c) t ≡ true) → Takes x
    node_takes c f x m h e k = let p = node_placed targets f h in takes c x p.0 m (ap (λ g. place_of targets g) (sym e) ∙ p.1) (λ r. k r p.0 p.1)

    laid_client : (d : Fid) → (layout_at l d).count ≢ 0 → is_client targets d ≡ true
    laid_client d h = (sound.striped d h).0

    entry_at : (d : Fid) (c s g : ℕ) (n : List ℕ) → IsNodeFid targets d → (c ≢ 0 → is_client targets d ≡ true)
        → (t : ℕ) × (place_of targets (part_named targets d (record { count = c; start = s; generation = g }) n) ≡ Some t) × (entry_place targets d (record { count = c; start = s; generation = g }) n ≡ Some t)
    entry_at d zero s g n h k = let p = node_placed targets d h in (p.0, p.1, p.1)
    entry_at d (suc c) s g n h k =
        let i = fnv1a_64 n % suc c in
        let t = (s + i) % targets in
        (t, ap (λ f. place_of targets f) (part_striped targets d c s g n) ∙ stripe_placed targets d t i g few (mod-lt (s + i) (let one = some in omega (arith, one))) (k (λ (e : suc c ≡ 0). absurd (omega (arith, e)))), refl)

    name_takes : (c : Change) (d : Fid) (n : List ℕ) (x : Fid) → In cs c → IsNodeFid targets d → part_named targets d (layout_at l d) n ≡ x
        → ((r t : ℕ) → entry_place targets d (layout_at l d) n ≡ Some t → is_member (with_change targets l r c) t ≡ true) → Takes x
    name_takes c d n x m h e k =
        let lay : Layout = layout_at l d in
        let p = entry_at d lay.count lay.start lay.generation n h (laid_client d) in
        takes c x p.0 m (ap (λ g. place_of targets g) (sym e) ∙ p.1) (λ r. k r p.0 p.2)

    licence : (c : Change) → In cs c → Licensed targets l looked cs c
    licence c m = each_in (Licensed targets l looked cs) cs c good.each m

    put_takes : (f : Fid) (n : Node) (x : Fid) → In cs (PutNode f n) → IsNodeFid targets f → f ≡ x → Takes x
    put_takes f n x m h e = node_takes (PutNode f n) f x m h e (λ r t p. place_has r (place_of targets f) t p)

    drop_takes : (f x : Fid) → In cs (DropNode f) → IsNodeFid targets f → f ≡ x → Takes x
    drop_takes f x m h e =
        node_takes (DropNode f) f x m h e
        (λ r t p. stripes_keep targets (with_place r (place_of targets f)) (layout_at l f) (layout_at l f).count t (place_has r (place_of targets f) t p))

    dropped_takes : (f x : Fid) → In cs (DropNode f) → In (stripes_of targets f (layout_at l f)) x → Takes x
    dropped_takes f x m h =
        let o = of_stripe targets f (layout_at l f) x some few (striped targets some few l sound f x h).0 h in
        takes (DropNode f) x (stripe_target targets (layout_at l f) o.index) m o.placed
        (λ r. stripes_have targets (with_place r (place_of targets f)) (layout_at l f) (layout_at l f).count o.index o.within)

    pub written_takes : (c : Change) (x : Fid) → In cs c → In (written_by targets l c) x → Takes x
    written_takes (PutNode f n) x m h = put_takes f n x m (licence (PutNode f n) m).1 (only h)
    written_takes (DropNode f) x m h = ⊎_elim (λ e. drop_takes f x m (licence (DropNode f) m).1 e) (λ s. dropped_takes f x m s) h
    written_takes (PutName d n f) x m h =
        name_takes (PutName d n f) d n x m (licence (PutName d n f) m).1 (only h) (λ r t p. place_has r (entry_place targets d (layout_at l d) n) t p)
    written_takes (DropName d n) x m h =
        name_takes (DropName d n) d n x m (licence (DropName d n) m).1 (only h) (λ r t p. place_has r (entry_place targets d (layout_at l d) n) t p)
    written_takes (NewLayout d c i) x m h =
        let lic = licence (NewLayout d c i) m in
        let lay : Layout = layout_with c i 0 in
        ⊎_elim (λ e. put_takes d lic.5.0 x lic.5.1 (inr lic.1) e)
        (λ s.
        let o = of_stripe targets d lay x some few lic.1 s in
        takes (NewLayout d c i) x (stripe_target targets lay o.index) m o.placed
        (λ r. stripes_have targets r lay c o.index (subst (λ n. o.index < n) (count_with c i 0) o.within))) h
    written_takes (NextLayout d c i) x m h =
        let lic = licence (NextLayout d c i) m in
        let old : Layout = layout_at l d in
        let next : Layout = next_of targets l looked d c i in
        let new : Layout = layout_with c i 0 in
        ⊎_elim
        (λ e. node_takes (NextLayout d c i) d x m (inr lic.2) e
        (λ r t p. stripes_keep targets (with_stripes targets (with_place r (place_of targets d)) old old.count) new c t
        (stripes_keep targets (with_place r (place_of targets d)) old old.count t (place_has r (place_of targets d) t p))))
        (λ s. ⊎_elim
        (λ a.
        let o = of_stripe targets d old x some few lic.2 a in
        takes (NextLayout d c i) x (stripe_target targets old o.index) m o.placed
        (λ r. stripes_keep targets (with_stripes targets (with_place r (place_of targets d)) old old.count) new c (stripe_target targets old o.index)
        (stripes_have targets (with_place r (place_of targets d)) old old.count o.index o.within)))
        (λ b.
        let o = of_stripe targets d next x some few lic.2 b in
        let same : stripe_target targets next o.index ≡ stripe_target targets new o.index = ap (λ s. (s + o.index) % targets) (start_with c i (suc old.generation) 0) in
        takes (NextLayout d c i) x (stripe_target targets new o.index) m (o.placed ∙ ap Some same)
        (λ r. stripes_have targets (with_stripes targets (with_place r (place_of targets d)) old old.count) new c o.index (subst (λ n. o.index < n) (count_with c i (suc old.generation)) o.within)))
        (in_either (stripes_of targets d old) (stripes_of targets d next) x s)) h
    written_takes (MoveNames d) x m h = absurd h
