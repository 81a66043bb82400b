-- Each target that an operation is on is its home, or the place of an object that it writes.
use Rattle.std.proofs.Common.{◌≡◌, ◌≢◌, ◌<◌, ◌≤◌, ◌+◌, ◌%◌, ◌⊎◌, inl, inr, ⊎_elim, ℕ, zero, suc, true, Option, Some, None, List, [], ◌∷◌, ◌++◌, refl, sym, ap, ◌∙◌, subst, arith, true≢false}
use Rattle.std.proofs.Math.Nat.{mod-lt}
use Rattle.fid_space.specs.declared.fid.Fid.{Fid}
use Rattle.fid_space.specs.Places.{place_of, is_client}
use Rattle.fid_space.specs.Targets.{is_member, joined}
use Rattle.fid_space.proofs.Members.{member_none, member_joined}
use Rattle.tree_model.specs.declared.op.Op.{Op}
use Rattle.tree_model.specs.Changes.{Change, PutNode, DropNode, PutName, DropName, NewLayout, NextLayout, MoveNames}
use Rattle.tree_model.specs.Keys.{Key, Layout, Laid, layout_at, layout_with}
use Rattle.tree_model.specs.Looks.{looks, changes}
use Rattle.tree_model.specs.Participants.{home_of, with_place}
use Rattle.tree_model.specs.Striped.{fnv1a_64, stripe_target, entry_place, with_stripes, with_change, with_changes, on}
use Rattle.striped_dir.specs.Parts.{stripe_at}
use Rattle.tree_sound.specs.Sound.{IsSound}
use Rattle.tree_sound.proofs.Basics.{In}
use Rattle.tree_shares.proofs.Written.{part_striped}
use Rattle.op_laws.specs.Objects.{is_among, stripes_of, part_named, written_by, wrote}
use Rattle.op_laws.specs.Laws.{IsCount}
use Rattle.op_laws.proofs.Ground.{Ground, ground}
use Rattle.op_laws.proofs.Lists.{each_in, of_in, in_flat, in_left, in_right}
use Rattle.op_laws.proofs.Names.{stripe_placed}
use Rattle.op_laws.proofs.Stripes.{at_below}
use Rattle.op_laws.proofs.Facts.{Licensed, Good, next_of}
use Rattle.op_laws.proofs.Places.{count_with}
use Rattle.op_laws.proofs.Walks.{op_good}

of_place : (s : ℕ) (o : Option ℕ) (t : ℕ) → is_member (with_place s o) t ≡ true → (is_member s t ≡ true) ⊎ (o ≡ Some t)
of_place s None t h = inl h
of_place s (Some k) t h = ⊎_elim (λ a. inl a) (λ (e : t ≡ k). inr (ap Some (sym e))) ((member_joined s t k).0 h)

of_stripes : (targets s : ℕ) (lay : Layout) (n t : ℕ) → is_member (with_stripes targets s lay n) t ≡ true
    → (is_member s t ≡ true) ⊎ ((i : ℕ) × (i < n) × (stripe_target targets lay i ≡ t))
of_stripes targets s lay zero t h = inl h
of_stripes targets s lay (suc n) t h = ⊎_elim
    (λ m. ⊎_elim (λ a. inl a) (λ (e : t ≡ stripe_target targets lay n). inr (n, omega arith, sym e)) ((member_joined s t (stripe_target targets lay n)).0 m))
    (λ m. inr (m.0, let low = m.1 in omega (arith, low), m.2))
    (of_stripes targets (joined s (stripe_target targets lay n)) lay n t h)

-- the target doesn't hang on the generation
same_target : (targets c i g h j : ℕ) → stripe_target targets (layout_with c i g) j ≡ stripe_target targets (layout_with c i h) j
same_target targets zero i g h j = refl
same_target targets (suc c) i g h j = refl

module _ (targets : ℕ) (l : Laid) (some : 1 ≤ targets) (few : targets ≤ 16) (sound : Ground targets l) (looked : List Key) (cs : List Change) (good : Good targets l looked cs) where
  abbrev At : List Fid → ℕ → Type 0
  At xs t = (x : Fid) × In xs x × (place_of targets x ≡ Some t)

  stripe_at_target : (d : Fid) (lay : Layout) (j t : ℕ) → is_client targets d ≡ true → j < lay.count → stripe_target targets lay j ≡ t → At (stripes_of targets d lay) t
  stripe_at_target d lay j t client low e = (
    (stripe_at targets d lay j).1,
    at_below targets d lay lay.count j low,
    stripe_placed targets d (stripe_target targets lay j) j lay.generation few (mod-lt (lay.start + j) (let one = some in omega (arith, one))) client ∙ ap Some e,
  )

  laid_client : (d : Fid) (j : ℕ) → j < (layout_at l d).count → is_client targets d ≡ true
  laid_client d j low = (sound.striped d (λ (e : (layout_at l d).count ≡ 0). absurd (omega (arith, low, e)))).0

  entry_at_target : (d : Fid) (c s g : ℕ) (n : List ℕ) (t : ℕ) → (c ≢ 0 → is_client targets d ≡ true) → entry_place targets d (record { count = c; start = s; generation = g }) n ≡ Some t
      → place_of targets (part_named targets d (record { count = c; start = s; generation = g }) n) ≡ Some t
  entry_at_target d zero s g n t client e = e
  entry_at_target d (suc c) s g n t client e =
      let i = fnv1a_64 n % suc c in
      ap (λ f. place_of targets f) (part_striped targets d c s g n)
      ∙ stripe_placed targets d ((s + i) % targets) i g few (mod-lt (s + i) (let one = some in omega (arith, one))) (client (λ (z : suc c ≡ 0). absurd (omega (arith, z)))) ∙ e

  entry_written : (d : Fid) (n : List ℕ) (t : ℕ) → entry_place targets d (layout_at l d) n ≡ Some t → At (part_named targets d (layout_at l d) n ∷ []) t
  entry_written d n t e = (
    part_named targets d (layout_at l d) n,
    inl refl,
    entry_at_target d (layout_at l d).count (layout_at l d).start (layout_at l d).generation n t (λ h. (sound.striped d h).0) e,
  )

  behind : (d : Fid) (xs : List Fid) (t : ℕ) → At xs t → At (d ∷ xs) t
  behind d xs t a = (a.0, inr a.1, a.2)

  of_change : (s : ℕ) (c : Change) (t : ℕ) → In cs c → is_member (with_change targets l s c) t ≡ true → (is_member s t ≡ true) ⊎ At (written_by targets l c) t
  of_change s (PutNode f n) t m h = ⊎_elim (λ a. inl a) (λ e. inr (f, inl refl, e)) (of_place s (place_of targets f) t h)
  of_change s (DropNode f) t m h = ⊎_elim
      (λ a. ⊎_elim (λ b. inl b) (λ e. inr (f, inl refl, e)) (of_place s (place_of targets f) t a))
      (λ j. inr (behind f (stripes_of targets f (layout_at l f)) t (stripe_at_target f (layout_at l f) j.0 t (laid_client f j.0 j.1) j.1 j.2)))
      (of_stripes targets (with_place s (place_of targets f)) (layout_at l f) (layout_at l f).count t h)
  of_change s (PutName d n f) t m h = ⊎_elim (λ a. inl a) (λ e. inr (entry_written d n t e)) (of_place s (entry_place targets d (layout_at l d) n) t h)
  of_change s (DropName d n) t m h = ⊎_elim (λ a. inl a) (λ e. inr (entry_written d n t e)) (of_place s (entry_place targets d (layout_at l d) n) t h)
  of_change s (NewLayout d c i) t m h = ⊎_elim (λ a. inl a)
      (λ j. inr (behind d (stripes_of targets d (layout_with c i 0)) t
      (stripe_at_target d (layout_with c i 0) j.0 t (licence (NewLayout d c i) m).1 (subst (λ k. j.0 < k) (sym (count_with c i 0)) j.1) j.2)))
      (of_stripes targets s (layout_with c i 0) c t h)
    where
      licence : (c : Change) → In cs c → Licensed targets l looked cs c
      licence c m = each_in (Licensed targets l looked cs) cs c good.each m
  of_change s (NextLayout d c i) t m h = ⊎_elim
      (λ a. ⊎_elim
      (λ b. ⊎_elim (λ z. inl z) (λ e. inr (d, inl refl, e)) (of_place s (place_of targets d) t b))
      (λ j. inr (behind d (olds ++ news) t (left (stripe_at_target d (layout_at l d) j.0 t (laid_client d j.0 j.1) j.1 j.2))))
      (of_stripes targets (with_place s (place_of targets d)) (layout_at l d) (layout_at l d).count t a))
      (λ j. inr (behind d (olds ++ news) t (right
      (stripe_at_target d next j.0 t (licence (NextLayout d c i) m).2 (subst (λ k. j.0 < k) (sym (count_with c i (suc (layout_at l d).generation))) j.1)
      (same_target targets c i (suc (layout_at l d).generation) 0 j.0 ∙ j.2)))))
      (of_stripes targets (with_stripes targets (with_place s (place_of targets d)) (layout_at l d) (layout_at l d).count) (layout_with c i 0) c t h)
    where
      next : Layout
      next = next_of targets l looked d c i

      olds : List Fid
      olds = stripes_of targets d (layout_at l d)

      news : List Fid
      news = stripes_of targets d (next_of targets l looked d c i)

      licence : (c : Change) → In cs c → Licensed targets l looked cs c
      licence c m = each_in (Licensed targets l looked cs) cs c good.each m

      left : At (stripes_of targets d (layout_at l d)) t → At (stripes_of targets d (layout_at l d) ++ stripes_of targets d (next_of targets l looked d c i)) t
      left a = (a.0, in_left (stripes_of targets d (layout_at l d)) (stripes_of targets d (next_of targets l looked d c i)) a.0 a.1, a.2)

      right : At (stripes_of targets d (next_of targets l looked d c i)) t → At (stripes_of targets d (layout_at l d) ++ stripes_of targets d (next_of targets l looked d c i)) t
      right a = (a.0, in_right (stripes_of targets d (layout_at l d)) (stripes_of targets d (next_of targets l looked d c i)) a.0 a.1, a.2)
  of_change s (MoveNames d) t m h = inl h

  of_changes : (s : ℕ) (ds : List Change) (t : ℕ) → ((c : Change) → In ds c → In cs c) → is_member (with_changes targets l s ds) t ≡ true
      → (is_member s t ≡ true) ⊎ ((c : Change) × In cs c × At (written_by targets l c) t)
  of_changes s [] t all h = inl h
  of_changes s (c ∷ ds) t all h = ⊎_elim
      (λ a. ⊎_elim (λ b. inl b) (λ x. inr (c, all c (inl refl), x)) (of_change s c t (all c (inl refl)) a))
      (λ x. inr x)
      (of_changes (with_change targets l s c) ds t (λ c m. all c (inr m)) h)

-- a written object is there
abbrev pub WrittenAt : ℕ → Laid → Op → ℕ → Type 0
WrittenAt targets l op t = (x : Fid) × (is_among (wrote targets l op) x ≡ true) × (place_of targets x ≡ Some t)

pub on_written : (targets most : ℕ) (l : Laid) (op : Op) (t : ℕ) → IsCount targets → IsSound targets most l → is_member (on targets l op) t ≡ true → (home_of targets op ≡ Some t) ⊎ WrittenAt targets l op t
on_written targets most l op t count sound h =
    let g = ground targets most l sound in
    let good = op_good targets l op count.0 g in
    let cs = changes targets l.tree op in
    ⊎_elim
    (λ a. ⊎_elim (λ b. absurd (true≢false (sym b ∙ member_none t))) (λ e. inl e) (of_place 0 (home_of targets op) t a))
    (λ w. inr (w.2.0, of_in (wrote targets l op) w.2.0 (in_flat (written_by targets l) cs w.0 w.2.0 w.1 w.2.1), w.2.2))
    (of_changes targets l count.0 count.1 g (looks targets l.tree op) cs good (with_place 0 (home_of targets op)) cs t (λ c m. m) h)
