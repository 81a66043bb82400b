-- What FIDs of nodes and of stripes are.
use Rattle.std.proofs.Common.{◌≡◌, ◌<◌, ◌≤◌, ◌+◌, ◌-◌, ◌*◌, ◌/◌, ◌%◌, ◌==◌, ◌&&◌, inl, inr, nat_le, nat_lt, if◌then◌else◌, ℕ, true, false, cond, Some, None, refl, sym, ap, ◌∙◌, arith}
use Rattle.std.proofs.lemmas.Bool.Decides.{nat_tests}
use Rattle.fid_space.specs.declared.fid.Fid.{Fid}
use Rattle.fid_space.specs.Places.{base_of, offset_of, place_of, is_client, is_stripe, in_range, stripe_of}
use Rattle.fid_space.proofs.Splitting.{apart}
use Rattle.tree_model.specs.Tree.{root_fid}
use Rattle.op_laws.specs.Objects.{owner}
use Rattle.tree_sound.specs.Sound.{IsNodeFid}

pub record Client (targets : ℕ) (f : Fid) : Type 0 where
  pub low : 0x200000400 ≤ f.seq
  pub high : f.seq < 0x200000400 + targets * 0x100000
  pub near : (f.seq - 0x200000400) % 0x100000 < 0x8000
  pub some : 1 ≤ f.oid
  pub plain : f.ver ≡ 0

pub client_is : (targets : ℕ) (f : Fid) → is_client targets f ≡ true → Client targets f
client_is targets f e = record {
  low = grind (arith, nat_tests);
  high = grind (arith, nat_tests);
  near = grind (arith, nat_tests);
  some = grind (arith, nat_tests);
  plain = grind (arith, nat_tests);
}

far_off : (targets s : ℕ) → (s - 0x200000400) % 0x100000 < 0x8000 → ((nat_le 0x200000400 s && nat_lt s (0x200000400 + targets * 0x100000)) && nat_le 0x80000 ((s - 0x200000400) % 0x100000)) ≡ false
far_off targets s near = grind (arith, nat_tests)

client_no_stripe : (targets : ℕ) (f : Fid) → is_client targets f ≡ true → is_stripe targets f ≡ false
client_no_stripe targets f e = far_off targets f.seq (client_is targets f e).near

root_no_stripe : (targets : ℕ) → is_stripe targets root_fid ≡ false
root_no_stripe targets = refl

pub no_stripe : (targets : ℕ) (f : Fid) → IsNodeFid targets f → is_stripe targets f ≡ false
no_stripe targets f (inl e) = ap (λ g. is_stripe targets g) e ∙ root_no_stripe targets
no_stripe targets f (inr h) = client_no_stripe targets f h

pub own_owner : (targets : ℕ) (f : Fid) → is_stripe targets f ≡ false → owner targets f ≡ f
own_owner targets f h = ap (λ b. if b then (record { seq = base_of ((offset_of f - 0x80000) / 0x8000) + (offset_of f - 0x80000) % 0x8000; oid = f.oid; ver = 0 }) else f) h

in_place : (targets s : ℕ) → 0x200000400 ≤ s → s < 0x200000400 + targets * 0x100000 → (nat_le 0x200000400 s && nat_lt s (0x200000400 + targets * 0x100000)) ≡ true
in_place targets s low high = grind (arith, nat_tests)

-- a node has a place
pub node_placed : (targets : ℕ) (f : Fid) → IsNodeFid targets f → (t : ℕ) × (place_of targets f ≡ Some t)
node_placed targets f (inl e) = (0, ap (λ g. place_of targets g) e)
node_placed targets f (inr h) =
    let c = client_is targets f h in
    let other : (f.seq == 0x200000007) ≡ false = apart f.seq 0x200000007 (λ (e : f.seq ≡ 0x200000007). let low = c.low in omega (arith, e, low)) in (
      (f.seq - 0x200000400) / 0x100000,
      ap (λ b. cond b (Some 0) (cond (in_range targets f) (Some ((f.seq - 0x200000400) / 0x100000)) None)) other
          ∙ ap (λ b. cond b (Some ((f.seq - 0x200000400) / 0x100000)) None) (in_place targets f.seq c.low c.high),
    )

-- ---- stripes

upper : ℕ → ℕ → ℕ
upper s t = (0x200000400 + t * 0x100000) + (0x80000 + ((s - 0x200000400) / 0x100000 * 0x8000 + (s - 0x200000400) % 0x100000))

in_own : (targets s t : ℕ) → t < targets → targets ≤ 16 → s < 0x200000400 + targets * 0x100000 → (s - 0x200000400) % 0x100000 < 0x8000 → (nat_le 0x200000400 (upper s t) && nat_lt (upper s t) (0x200000400 + targets * 0x100000)) ≡ true
unfolding upper
in_own targets s t below few high near = grind (arith, nat_tests)

own_target : (s t : ℕ) → s < 0x201000400 → (s - 0x200000400) % 0x100000 < 0x8000 → (upper s t - 0x200000400) / 0x100000 ≡ t
unfolding upper
own_target s t high near = omega (arith, high, near)

own_offset : (s t : ℕ) → s < 0x201000400 → (s - 0x200000400) % 0x100000 < 0x8000 → (upper s t - 0x200000400) % 0x100000 ≡ 0x80000 + ((s - 0x200000400) / 0x100000 * 0x8000 + (s - 0x200000400) % 0x100000)
unfolding upper
own_offset s t high near = omega (arith, high, near)

not_root : (s t : ℕ) → (upper s t == 0x200000007) ≡ false
unfolding upper
not_root s t = apart (upper s t) 0x200000007 (λ (e : upper s t ≡ 0x200000007). omega (arith, e))

far : (n a k : ℕ) → n ≡ 0x80000 + (a * 0x8000 + k) → nat_le 0x80000 n ≡ true
far n a k e = grind (arith, nat_tests)

back : (s n : ℕ) → 0x200000400 ≤ s → (s - 0x200000400) % 0x100000 < 0x8000 → n ≡ 0x80000 + ((s - 0x200000400) / 0x100000 * 0x8000 + (s - 0x200000400) % 0x100000)
    → (0x200000400 + (n - 0x80000) / 0x8000 * 0x100000) + (n - 0x80000) % 0x8000 ≡ s
back s n low near e = omega (arith, low, near, e)

-- a stripe's FID is one
pub is_one : (targets : ℕ) (d : Fid) (t i g : ℕ) → targets ≤ 16 → t < targets → is_client targets d ≡ true → is_stripe targets (stripe_of d t i g) ≡ true
unfolding upper
is_one targets d t i g few below h =
    let c = client_is targets d h in
    let high : d.seq < 0x201000400 = let up = c.high in omega (arith, up, few) in
    ap (λ b. b && nat_le 0x80000 ((upper d.seq t - 0x200000400) % 0x100000)) (in_own targets d.seq t below few c.high c.near)
    ∙ far ((upper d.seq t - 0x200000400) % 0x100000) ((d.seq - 0x200000400) / 0x100000) ((d.seq - 0x200000400) % 0x100000) (own_offset d.seq t high c.near)

pub stripe_placed : (targets : ℕ) (d : Fid) (t i g : ℕ) → targets ≤ 16 → t < targets → is_client targets d ≡ true → place_of targets (stripe_of d t i g) ≡ Some t
unfolding upper
stripe_placed targets d t i g few below h =
    let c = client_is targets d h in
    let high : d.seq < 0x201000400 = let up = c.high in omega (arith, up, few) in
    let seq = upper d.seq t in
    ap (λ b. cond b (Some 0) (cond (nat_le 0x200000400 seq && nat_lt seq (0x200000400 + targets * 0x100000)) (Some ((seq - 0x200000400) / 0x100000)) None)) (not_root d.seq t)
    ∙ ap (λ b. cond b (Some ((seq - 0x200000400) / 0x100000)) None) (in_own targets d.seq t below few c.high c.near)
    ∙ ap Some (own_target d.seq t high c.near)

-- and its owner is its directory
pub stripe_owner : (targets : ℕ) (d : Fid) (t i g : ℕ) → targets ≤ 16 → t < targets → is_client targets d ≡ true → owner targets (stripe_of d t i g) ≡ d
unfolding upper
stripe_owner targets d t i g few below h =
    let c = client_is targets d h in
    let x = stripe_of d t i g in
    let high : d.seq < 0x201000400 = let up = c.high in omega (arith, up, few) in
    let seq : (0x200000400 + (offset_of x - 0x80000) / 0x8000 * 0x100000) + (offset_of x - 0x80000) % 0x8000 ≡ d.seq =
    back d.seq (offset_of x) c.low c.near (own_offset d.seq t high c.near) in
    let ver : 0 ≡ d.ver = sym c.plain in
    ap (λ b. if b then (record { seq = base_of ((offset_of x - 0x80000) / 0x8000) + (offset_of x - 0x80000) % 0x8000; oid = x.oid; ver = 0 }) else x) (is_one targets d t i g few below h)
    ∙ (λ j. record { seq = seq j; oid = d.oid; ver = ver j })

versions : (i j g h : ℕ) → i < 16 → j < 16 → 1 + i + 16 * g ≡ 1 + j + 16 * h → g ≡ h
versions i j g h a b e = omega (arith, a, b, e)

pub one_generation : (d : Fid) (t u i j g h : ℕ) → i < 16 → j < 16 → stripe_of d t i g ≡ stripe_of d u j h → g ≡ h
one_generation d t u i j g h a b e = versions i j g h a b (ap (λ (f : Fid). f.ver) e)
