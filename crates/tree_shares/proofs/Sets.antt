-- The set of targets that an operation is on.
use Rattle.std.proofs.Common.{◌≡◌, ◌≢◌, ◌<◌, ◌≤◌, ◌+◌, ◌-◌, ◌*◌, ◌/◌, ◌%◌, ◌==◌, inl, inr, ⊎_elim, ℕ, zero, suc, Bool, true, false, true≢false, if◌then◌else◌, Option, Some, None, List, [], ◌∷◌, refl, sym, ◌∙◌, subst, arith}
use Rattle.std.proofs.lemmas.Bool.Decides.{eqb_tells, nat_tests}
use Rattle.std.proofs.Math.Nat.{mod-lt}
use Rattle.fid_space.specs.declared.fid.Fid.{Fid}
use Rattle.fid_space.specs.Places.{place_of, in_range, base_of}
use Rattle.fid_space.specs.Targets.{is_member, joined}
use Rattle.fid_space.proofs.Members.{member_none, member_joined}
use Rattle.tree_model.specs.declared.op.Op.{Op}
use Rattle.tree_model.specs.Changes.{Change, PutNode, DropNode, PutName, DropName, NewLayout, NextLayout, MoveNames}
use Rattle.tree_model.specs.Keys.{Layout, Laid, layout_at, layout_with}
use Rattle.tree_model.specs.Looks.{changes}
use Rattle.tree_model.specs.Participants.{home_of, first_fid, with_place}
use Rattle.tree_model.specs.Striped.{fnv1a_64, stripe_target, entry_place, with_stripes, with_change, with_changes, on}
use Rattle.tree_sound.proofs.Basics.{In, some_is, none_is}

-- ---- a set keeps its members

joined_keeps : (s k t : ℕ) → is_member s t ≡ true → is_member (joined s k) t ≡ true
joined_keeps s k t h = (member_joined s t k).1 (inl h)

joined_has : (s k : ℕ) → is_member (joined s k) k ≡ true
joined_has s k = (member_joined s k k).1 (inr refl)

place_keeps : (s : ℕ) (o : Option ℕ) (t : ℕ) → is_member s t ≡ true → is_member (with_place s o) t ≡ true
place_keeps s None t h = h
place_keeps s (Some k) t h = joined_keeps s k t h

pub place_has : (s : ℕ) (o : Option ℕ) (t : ℕ) → o ≡ Some t → is_member (with_place s o) t ≡ true
place_has s o t e = subst (λ o. is_member (with_place s o) t ≡ true) (sym e) (joined_has s t)

pub stripes_keep : (targets s : ℕ) (lay : Layout) (n t : ℕ) → is_member s t ≡ true → is_member (with_stripes targets s lay n) t ≡ true
stripes_keep targets s lay zero t h = h
stripes_keep targets s lay (suc n) t h = stripes_keep targets (joined s (stripe_target targets lay n)) lay n t (joined_keeps s (stripe_target targets lay n) t h)

pub stripes_have : (targets s : ℕ) (lay : Layout) (n i : ℕ) → i < n → is_member (with_stripes targets s lay n) (stripe_target targets lay i) ≡ true
stripes_have targets s lay zero i h = absurd (omega (arith, h))
stripes_have targets s lay (suc n) i h = elim (eqb_tells i n) [
  | inl e ↦ stripes_keep targets (joined s (stripe_target targets lay n)) lay n (stripe_target targets lay i)
      (subst (λ j. is_member (joined s (stripe_target targets lay j)) (stripe_target targets lay i) ≡ true) e.1 (joined_has s (stripe_target targets lay i)))
  | inr e ↦ let ne : i ≢ n = e.1 in stripes_have targets (joined s (stripe_target targets lay n)) lay n i (grind (arith, h))
]

module _ (targets : ℕ) (l : Laid) where
  change_keeps : (s : ℕ) (c : Change) (t : ℕ) → is_member s t ≡ true → is_member (with_change targets l s c) t ≡ true
  change_keeps s (PutNode f n) t h = place_keeps s (place_of targets f) t h
  change_keeps s (DropNode f) t h = stripes_keep targets (with_place s (place_of targets f)) (layout_at l f) (layout_at l f).count t (place_keeps s (place_of targets f) t h)
  change_keeps s (PutName d x f) t h = place_keeps s (entry_place targets d (layout_at l d) x) t h
  change_keeps s (DropName d x) t h = place_keeps s (entry_place targets d (layout_at l d) x) t h
  change_keeps s (NewLayout d c i) t h = stripes_keep targets s (layout_with c i 0) c t h
  change_keeps s (NextLayout d c i) t h =
      stripes_keep targets (with_stripes targets (with_place s (place_of targets d)) (layout_at l d) (layout_at l d).count) (layout_with c i 0) c t
      (stripes_keep targets (with_place s (place_of targets d)) (layout_at l d) (layout_at l d).count t (place_keeps s (place_of targets d) t h))
  change_keeps s (MoveNames d) t h = h

  pub changes_keep : (s : ℕ) (cs : List Change) (t : ℕ) → is_member s t ≡ true → is_member (with_changes targets l s cs) t ≡ true
  changes_keep s [] t h = h
  changes_keep s (c ∷ cs) t h = changes_keep (with_change targets l s c) cs t (change_keeps s c t h)

  -- a change among others that takes a target along
  pub changes_have : (s : ℕ) (cs : List Change) (c : Change) (t : ℕ) → In cs c → ((r : ℕ) → is_member (with_change targets l r c) t ≡ true) → is_member (with_changes targets l s cs) t ≡ true
  changes_have s [] c t m h = absurd m
  changes_have s (d ∷ cs) c t m h = ⊎_elim
      (λ e. changes_keep (with_change targets l s d) cs t (subst (λ c. is_member (with_change targets l s c) t ≡ true) (sym e) (h s)))
      (λ more. changes_have (with_change targets l s d) cs c t more h) m

  pub home_on : (op : Op) (home : ℕ) → home_of targets op ≡ Some home → is_member (on targets l op) home ≡ true
  home_on op home e = changes_keep (with_place 0 (home_of targets op)) (changes targets l.tree op) home (place_has 0 (home_of targets op) home e)

-- ---- and all members are targets of the cluster

range_below : (targets seq : ℕ) → seq < 0x200000400 + targets * 0x100000 → 1 ≤ targets → (seq - 0x200000400) / 0x100000 < targets
range_below targets seq h some = omega (arith, h, some)

pub place_below : (targets : ℕ) (f : Fid) (t : ℕ) → 1 ≤ targets → place_of targets f ≡ Some t → t < targets
place_below targets f t some h = by_root (f.seq == 0x200000007) h
  where
    within : in_range targets f ≡ true → f.seq < 0x200000400 + targets * 0x100000
    within e = grind (arith, nat_tests)

    by_range : (b : Bool) → in_range targets f ≡ b → (if b then Some ((f.seq - base_of 0) / 0x100000) else None) ≡ Some t → t < targets
    by_range true e k = subst (λ t. t < targets) (some_is k) (range_below targets f.seq (within e) some)
    by_range false e k = absurd (none_is k)

    by_root : (b : Bool) → (if b then Some 0 else (if in_range targets f then Some ((f.seq - base_of 0) / 0x100000) else None)) ≡ Some t → t < targets
    by_root true k = let e : 0 ≡ t = some_is k in omega (arith, e, some)
    by_root false k = by_range (in_range targets f) refl k

module _ (targets : ℕ) (some : 1 ≤ targets) where
  abbrev Below : ℕ → Type 0
  Below s = (t : ℕ) → is_member s t ≡ true → t < targets

  joined_below : (s k : ℕ) → Below s → k < targets → Below (joined s k)
  joined_below s k h low t m = ⊎_elim (λ a. h t a) (λ (e : t ≡ k). subst (λ t. t < targets) (sym e) low) ((member_joined s t k).0 m)

  placed_below : (s : ℕ) (o : Option ℕ) → Below s → ((k : ℕ) → o ≡ Some k → k < targets) → Below (with_place s o)
  placed_below s None h low = h
  placed_below s (Some k) h low = joined_below s k h (low k refl)

  target_below : (lay : Layout) (i : ℕ) → stripe_target targets lay i < targets
  target_below lay i = mod-lt (lay.start + i) (let one = some in omega (arith, one))

  stripes_below : (s : ℕ) (lay : Layout) (n : ℕ) → Below s → Below (with_stripes targets s lay n)
  stripes_below s lay zero h = h
  stripes_below s lay (suc n) h = stripes_below (joined s (stripe_target targets lay n)) lay n (joined_below s (stripe_target targets lay n) h (target_below lay n))

  entry_below : (d : Fid) (c s g : ℕ) (x : List ℕ) (t : ℕ) → entry_place targets d (record { count = c; start = s; generation = g }) x ≡ Some t → t < targets
  entry_below d zero s g x t e = place_below targets d t some e
  entry_below d (suc c) s g x t e = subst (λ t. t < targets) (some_is e) (target_below (record { count = suc c; start = s; generation = g }) (fnv1a_64 x % suc c))

  module _ (l : Laid) where
    change_below : (s : ℕ) (c : Change) → Below s → Below (with_change targets l s c)
    change_below s (PutNode f n) h = placed_below s (place_of targets f) h (λ t e. place_below targets f t some e)
    change_below s (DropNode f) h =
        stripes_below (with_place s (place_of targets f)) (layout_at l f) (layout_at l f).count (placed_below s (place_of targets f) h (λ t e. place_below targets f t some e))
    change_below s (PutName d x f) h =
        placed_below s (entry_place targets d (layout_at l d) x) h (λ t e. entry_below d (layout_at l d).count (layout_at l d).start (layout_at l d).generation x t e)
    change_below s (DropName d x) h =
        placed_below s (entry_place targets d (layout_at l d) x) h (λ t e. entry_below d (layout_at l d).count (layout_at l d).start (layout_at l d).generation x t e)
    change_below s (NewLayout d c i) h = stripes_below s (layout_with c i 0) c h
    change_below s (NextLayout d c i) h =
        stripes_below (with_stripes targets (with_place s (place_of targets d)) (layout_at l d) (layout_at l d).count) (layout_with c i 0) c
        (stripes_below (with_place s (place_of targets d)) (layout_at l d) (layout_at l d).count (placed_below s (place_of targets d) h (λ t e. place_below targets d t some e)))
    change_below s (MoveNames d) h = h

    changes_below : (s : ℕ) (cs : List Change) → Below s → Below (with_changes targets l s cs)
    changes_below s [] h = h
    changes_below s (c ∷ cs) h = changes_below (with_change targets l s c) cs (change_below s c h)

    pub on_below : (op : Op) → Below (on targets l op)
    on_below op =
        changes_below (with_place 0 (home_of targets op)) (changes targets l.tree op)
        (placed_below 0 (home_of targets op) (λ t m. absurd (true≢false (sym m ∙ member_none t))) (λ t e. place_below targets (first_fid op) t some e))
