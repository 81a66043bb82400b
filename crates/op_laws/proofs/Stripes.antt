-- The parts of a directory.
use Rattle.std.proofs.Common.{◌≡◌, ◌≢◌, ◌<◌, ◌≤◌, ◌+◌, ◌%◌, ◌⊎◌, inl, inr, ⊎_elim, ℕ, zero, suc, true, List, Some, refl, sym, ap, subst, ◌∙◌, arith}
use Rattle.std.proofs.lemmas.Bool.Decides.{eqb_tells}
use Rattle.std.proofs.Math.Nat.{mod-lt, zero-lt-suc}
use Rattle.fid_space.specs.declared.fid.Fid.{Fid}
use Rattle.fid_space.specs.Places.{place_of, is_client, is_stripe, stripe_of}
use Rattle.tree_model.specs.Keys.{Layout}
use Rattle.tree_model.specs.Striped.{fnv1a_64, stripe_target}
use Rattle.striped_dir.specs.Parts.{stripe_at}
use Rattle.tree_shares.proofs.Written.{part_striped}
use Rattle.op_laws.specs.Objects.{stripes_below, stripes_of, parts_of, part_named, owner}
use Rattle.op_laws.proofs.Names.{is_one, stripe_placed, stripe_owner}
use Rattle.tree_sound.proofs.Basics.{In}

module _ (targets : ℕ) (d : Fid) where
  pub in_below : (lay : Layout) (n : ℕ) (x : Fid) → In (stripes_below targets d lay n) x → (i : ℕ) × (i < n) × ((stripe_at targets d lay i).1 ≡ x)
  in_below lay zero x h = absurd h
  in_below lay (suc n) x h = ⊎_elim (λ e. (n, omega arith, e)) (λ m. let more = in_below lay n x m in (more.0, let low = more.1 in omega (arith, low), more.2)) h

  pub at_below : (lay : Layout) (n i : ℕ) → i < n → In (stripes_below targets d lay n) (stripe_at targets d lay i).1
  at_below lay zero i h = absurd (omega (arith, h))
  at_below lay (suc n) i h = elim (eqb_tells i n) [
    | inl e ↦ inl (ap (λ j. (stripe_at targets d lay j).1) (sym e.1))
    | inr e ↦ let ne : i ≢ n = e.1 in inr (at_below lay n i (grind (arith, h)))
  ]

  pub stripes_are_parts : (c s g : ℕ) (x : Fid) → In (stripes_of targets d (record { count = c; start = s; generation = g })) x → In (parts_of targets d (record { count = c; start = s; generation = g })) x
  stripes_are_parts zero s g x h = absurd h
  stripes_are_parts (suc c) s g x h = h

  pub name_has_part : (c s g : ℕ) (name : List ℕ) → In (parts_of targets d (record { count = c; start = s; generation = g })) (part_named targets d (record { count = c; start = s; generation = g }) name)
  name_has_part zero s g name = inl refl
  name_has_part (suc c) s g name =
      let lay : Layout = record { count = suc c; start = s; generation = g } in
      subst (λ x. In (stripes_below targets d lay (suc c)) x) (sym (part_striped targets d c s g name)) (at_below lay (suc c) (fnv1a_64 name % suc c) (mod-lt (fnv1a_64 name) (zero-lt-suc c)))

  pub some_part : (c s g : ℕ) → (x : Fid) × In (parts_of targets d (record { count = c; start = s; generation = g })) x
  some_part zero s g = (d, inl refl)
  some_part (suc c) s g = ((stripe_at targets d (record { count = suc c; start = s; generation = g }) c).1, inl refl)

  pub part_is : (c s g : ℕ) (x : Fid) → In (parts_of targets d (record { count = c; start = s; generation = g })) x → (d ≡ x) ⊎ In (stripes_of targets d (record { count = c; start = s; generation = g })) x
  part_is zero s g x h = ⊎_elim (λ e. inl e) (λ none. absurd none) h
  part_is (suc c) s g x h = inr h

pub record OfStripe (targets : ℕ) (d : Fid) (lay : Layout) (x : Fid) : Type 0 where
  pub index : ℕ
  pub within : index < lay.count
  pub is : stripe_of d (stripe_target targets lay index) index lay.generation ≡ x
  pub stripe : is_stripe targets x ≡ true
  pub own : owner targets x ≡ d
  pub placed : place_of targets x ≡ Some (stripe_target targets lay index)

pub of_stripe : (targets : ℕ) (d : Fid) (lay : Layout) (x : Fid) → 1 ≤ targets → targets ≤ 16 → is_client targets d ≡ true → In (stripes_of targets d lay) x → OfStripe targets d lay x
of_stripe targets d lay x some few client h =
    let r = in_below targets d lay lay.count x h in
    let t = stripe_target targets lay r.0 in
    let below : t < targets = mod-lt (lay.start + r.0) (let one = some in omega (arith, one)) in
    record {
      index = r.0;
      within = r.1;
      is = r.2;
      stripe = ap (λ f. is_stripe targets f) (sym r.2) ∙ is_one targets d t r.0 lay.generation few below client;
      own = ap (λ f. owner targets f) (sym r.2) ∙ stripe_owner targets d t r.0 lay.generation few below client;
      placed = ap (λ f. place_of targets f) (sym r.2) ∙ stripe_placed targets d t r.0 lay.generation few below client;
    }
