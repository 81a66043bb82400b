-- The objects that updates name have FIDs, and the updates of stripes have a spelling.
use Rattle.std.proofs.Common.{◌≡◌, ◌≢◌, ◌≤◌, ◌<◌, ◌^◌, ◌+◌, ◌*◌, ◌%◌, if◌then◌else◌, ℕ, zero, suc, Bool, true, false, List, [], ◌∷◌, map, length, Option, Some, None, refl, arith}
use Rattle.std.proofs.lemmas.Bool.Decides.{nat_tests}
use Rattle.std.proofs.lemmas.List.FromFn.{length-range_with_len}
use Rattle.std.proofs.Math.Nat.{mod-lt, zero-lt-suc}
use Rattle.std.specs.Option.{option_map, unwrap_or}
use Rattle.std.specs.List.{AllByRecursion, range_with_len}
use Rattle.fid_space.specs.declared.fid.Fid.{Fid}
use Rattle.fid_space.specs.FidText.{IsFid}
use Rattle.fid_space.specs.Places.{place_of, is_client}
use Rattle.out_update.specs.declared.update.Kind.TheVariants as kind
use Rattle.tree_model.specs.Keys.{Layout}
use Rattle.tree_model.specs.Striped.{fnv1a_64, stripe_target}
use Rattle.striped_dir.specs.Parts.{stripe_at, part_at, place_at, create_of, destroy_of, made_stripe, removed_stripe, made_stripes, removed_stripes}
use Rattle.plan_base.specs.Places.{may_stand, entry_at, stripes_made, stripes_gone}
use Rattle.plan_record.proofs.Params.{p_none, p_stripe}
use Rattle.plan_record.proofs.Fitting.{Fits, spell, fits_none, fits_one, fits_most}

-- what a client may name, as a stripe's FID needs it
high_of : (targets : ℕ) (d : Fid) → targets ≤ 16 → is_client targets d ≡ true → d.seq < 0x201000400
high_of targets d few h = grind (arith, nat_tests)

-- a directory with stripes that it may have
pub record Striped (targets : ℕ) (d : Fid) (l : Layout) : Type 0 where
  pub count : l.count ≤ 16
  pub generation : l.generation ≤ 0x0ffffffe
  pub high : l.count ≢ 0 → d.seq < 0x201000400

striped : (targets : ℕ) (d : Fid) (l : Layout) → targets ≤ 16 → may_stand targets d l ≡ true → Striped targets d l
striped targets d l few h = record {
  count = grind (arith, nat_tests, h);
  generation = grind (arith, nat_tests, h);
  high = λ some. high_of targets d few (named some);
}
  where
    named : l.count ≢ 0 → is_client targets d ≡ true
    named some = grind (arith, nat_tests, h, some)

module _ (targets : ℕ) (one : 1 ≤ targets) (few : targets ≤ 16) where
  target_below : (l : Layout) (i : ℕ) → stripe_target targets l i < 16
  target_below l i = omega (arith, one, few)

  pub stripe_fid : (d : Fid) (l : Layout) (i : ℕ) → IsFid d → d.seq < 0x201000400 → l.generation ≤ 0x0ffffffe → i < 16 → IsFid (stripe_at targets d l i).1
  stripe_fid d l i is high low small =
      let target = target_below l i in
      (omega (arith, high, target), is.1, omega (arith, small, low))

  abbrev PartFid : Fid → Layout → ℕ → Type 0
  PartFid d l i = IsFid (unwrap_or (part_at targets d l i) (0, d)).1

  part_fid : (d : Fid) (c s g i : ℕ) → IsFid d → (c ≢ 0 → d.seq < 0x201000400) → c ≤ 16 → g ≤ 0x0ffffffe → (c ≢ 0 → i < c) → PartFid d (record { count = c; start = s; generation = g }) i
  part_fid d zero s g i is high most low within = by_place (place_of targets d)
    where
      by_place : (p : Option ℕ) → IsFid (unwrap_or {T = ℕ × Fid} (option_map (λ (target : ℕ). (target, d)) p) (0, d)).1
      by_place None = is
      by_place (Some t) = is
  part_fid d (suc c) s g i is high most low within =
      let some : suc c ≢ 0 = λ e. absurd (omega (arith, e)) in
      let inside = within some in
      stripe_fid d (record { count = suc c; start = s; generation = g }) i is (high some) low (omega (arith, inside, most))

  name_fid : (d : Fid) (c s g : ℕ) (x : List ℕ) → IsFid d → (c ≢ 0 → d.seq < 0x201000400) → c ≤ 16 → g ≤ 0x0ffffffe → IsFid (unwrap_or (place_at targets d (record { count = c; start = s; generation = g }) x) (0, d)).1
  name_fid d zero s g x is high most low = part_fid d zero s g 0 is high most low (λ some. absurd (some refl))
  name_fid d (suc c) s g x is high most low = part_fid d (suc c) s g (fnv1a_64 x % suc c) is high most low (λ some. mod-lt (fnv1a_64 x) (zero-lt-suc c))

  pub entry_fid : (d : Fid) (l : Layout) (x : List ℕ) → IsFid d → IsFid (entry_at targets d l x).1
  unfolding entry_at
  entry_fid d l x is = by_test (may_stand targets d l) refl
    where
      by_test : (b : Bool) → may_stand targets d l ≡ b → IsFid (if b then unwrap_or (place_at targets d l x) (0, d) else (0, d)).1
      by_test true h = let s = striped targets d l few h in name_fid d l.count l.start l.generation x is s.high s.count s.generation
      by_test false h = is

  -- ---- stripes

  abbrev AreLow : List ℕ → Type 0
  AreLow is = AllByRecursion (λ i. i < 16) is

  low_range : (a n : ℕ) → a + n ≤ 16 → AreLow (range_with_len a n)
  low_range a zero h = tt
  low_range a (suc n) h = (omega (arith, h), low_range (a + 1) n (omega (arith, h)))

  module _ (batch : ℕ) (small : batch < 2 ^ 64) where
    removed : (d : Fid) (l : Layout) → IsFid d → d.seq < 0x201000400 → l.generation ≤ 0x0ffffffe → (is : List ℕ) → AreLow is → Fits batch (length is) (32 * length is) (map (removed_stripe targets d l batch) is)
    removed d l fits high low [] h = fits_none
    removed d l fits high low (i ∷ is) h =
        fits_most _ _ _ _ _ (omega arith) (omega arith)
        (fits_one (stripe_at targets d l i).0 (destroy_of batch (stripe_at targets d l i).1) (length is) (32 * length is) _
        (spell batch kind.Destroy (stripe_at targets d l i).1 [] small refl (stripe_fid d l i fits high low h.0) p_none) (removed d l fits high low is h.1))

    made : (d : Fid) (l : Layout) → IsFid d → d.seq < 0x201000400 → l.generation ≤ 0x0ffffffe → (is : List ℕ) → AreLow is → Fits batch (length is) (88 * length is) (map (made_stripe targets d l batch) is)
    made d l fits high low [] h = fits_none
    made d l fits high low (i ∷ is) h =
        fits_most _ _ _ _ _ (omega arith) (omega arith)
        (fits_one (stripe_at targets d l i).0 (create_of batch d i (stripe_at targets d l i).1) (length is) (88 * length is) _
        (spell batch kind.Create (stripe_at targets d l i).1 _ small refl (stripe_fid d l i fits high low h.0) (p_stripe d i fits h.0)) (made d l fits high low is h.1))

    removed_few : (d : Fid) (c s g : ℕ) → IsFid d → (c ≢ 0 → d.seq < 0x201000400) → c ≤ 16 → g ≤ 0x0ffffffe → Fits batch 16 512 (removed_stripes targets d (record { count = c; start = s; generation = g }) batch)
    unfolding removed_stripes
    removed_few d zero s g is high most low = fits_most 0 16 0 512 [] (omega arith) (omega arith) fits_none
    removed_few d (suc c) s g is high most low =
        let count = length-range_with_len 0 (suc c) in
        fits_most _ _ _ _ _ (omega (arith, count, most)) (omega (arith, count, most))
        (removed d (record { count = suc c; start = s; generation = g }) is (high (λ e. absurd (omega (arith, e)))) low (range_with_len 0 (suc c)) (low_range 0 (suc c) (omega (arith, most))))

    made_few : (d : Fid) (c s g : ℕ) → IsFid d → (c ≢ 0 → d.seq < 0x201000400) → c ≤ 16 → g ≤ 0x0ffffffe → Fits batch 16 1408 (made_stripes targets d (record { count = c; start = s; generation = g }) batch)
    unfolding made_stripes
    made_few d zero s g is high most low = fits_most 0 16 0 1408 [] (omega arith) (omega arith) fits_none
    made_few d (suc c) s g is high most low =
        let count = length-range_with_len 0 (suc c) in
        fits_most _ _ _ _ _ (omega (arith, count, most)) (omega (arith, count, most))
        (made d (record { count = suc c; start = s; generation = g }) is (high (λ e. absurd (omega (arith, e)))) low (range_with_len 0 (suc c)) (low_range 0 (suc c) (omega (arith, most))))

    pub made_fit : (d : Fid) (l : Layout) → IsFid d → is_client targets d ≡ true → l.count ≤ 16 → l.generation ≤ 0x0ffffffe → Fits batch 16 1408 (made_stripes targets d l batch)
    made_fit d l is client most low = made_few d l.count l.start l.generation is (λ _. high_of targets d few client) most low

    pub gone_fit : (d : Fid) (l : Layout) → IsFid d → Fits batch 16 512 (stripes_gone targets d l batch)
    unfolding stripes_gone
    gone_fit d l is = by_test (may_stand targets d l) refl
      where
        by_test : (b : Bool) → may_stand targets d l ≡ b → Fits batch 16 512 (if b then removed_stripes targets d l batch else [])
        by_test true h = let s = striped targets d l few h in removed_few d l.count l.start l.generation is s.high s.count s.generation
        by_test false h = fits_most 0 16 0 512 [] (omega arith) (omega arith) fits_none

    -- where the layout is one that the directory may have
    pub new_fit : (d : Fid) (l : Layout) → IsFid d → Fits batch 16 1408 (stripes_made targets d l batch)
    unfolding stripes_made
    new_fit d l is = by_test (may_stand targets d l) refl
      where
        by_test : (b : Bool) → may_stand targets d l ≡ b → Fits batch 16 1408 (if b then made_stripes targets d l batch else [])
        by_test true h = let s = striped targets d l few h in made_few d l.count l.start l.generation is s.high s.count s.generation
        by_test false h = fits_most 0 16 0 1408 [] (omega arith) (omega arith) fits_none
