-- A stripe's FID tells its directory, target, index and generation, and lies in the upper half of its
-- target's range.
use Rattle.std.proofs.Common.{◌≡◌, ◌<◌, ◌≤◌, ◌+◌, ◌-◌, ◌*◌, ◌/◌, ◌%◌, ◌==◌, ◌&&◌, nat_le, nat_lt, ℕ, Bool, true, false, cond, Some, None, sym, ap, ◌∙◌, subst, arith}
use Rattle.std.proofs.lemmas.Bool.Decides.{nat_tests}
use Rattle.fid_space.specs.declared.fid.Fid.{Fid}
use Rattle.fid_space.specs.Places.{base_of, place_of, is_client, is_stripe, stripe_of}
use Rattle.fid_space.specs.StripeLaws.{OneStripePerFid, PlaceIsTarget}
use Rattle.fid_space.proofs.Splitting.{apart}
use Rattle.fid_space.proofs.PlaceLaws.{some_of}

abbrev may : Fid → ℕ → ℕ → ℕ → Bool
may d t i g = is_client 16 d && nat_lt t 16 && nat_lt i 16 && nat_le g 0x0ffffffe

record Bounds (d : Fid) (t i : ℕ) : Type 0 where
  low : 0x200000400 ≤ d.seq
  high : d.seq < 0x201000400
  near : (d.seq - 0x200000400) % 0x100000 < 0x8000
  plain : d.ver ≡ 0
  target : t < 16
  index : i < 16

bounds : (d : Fid) (t i g : ℕ) → may d t i g ≡ true → Bounds d t i
bounds d t i g e = record {
  low = grind (arith, nat_tests);
  high = grind (arith, nat_tests);
  near = grind (arith, nat_tests);
  plain = grind (arith, nat_tests);
  target = grind (arith, nat_tests);
  index = grind (arith, nat_tests);
}

split : (t u q p r w : ℕ) → q < 16 → p < 16 → r < 0x8000 → w < 0x8000 → base_of t + (0x80000 + (q * 0x8000 + r)) ≡ base_of u + (0x80000 + (p * 0x8000 + w)) → (t ≡ u) × (q ≡ p) × (r ≡ w)
split t u q p r w a b c d e = (omega (arith, e, a, b, c, d), omega (arith, e, a, b, c, d), omega (arith, e, a, b, c, d))

joined : (s z : ℕ) → 0x200000400 ≤ s → 0x200000400 ≤ z → (s - 0x200000400) / 0x100000 ≡ (z - 0x200000400) / 0x100000 → (s - 0x200000400) % 0x100000 ≡ (z - 0x200000400) % 0x100000 → s ≡ z
joined s z a b q r = omega (arith, a, b, q, r)

few : (s : ℕ) → s < 0x201000400 → (s - 0x200000400) / 0x100000 < 16
few s h = omega (arith, h)

versions : (i j g h : ℕ) → i < 16 → j < 16 → 1 + i + 16 * g ≡ 1 + j + 16 * h → (i ≡ j) × (g ≡ h)
versions i j g h a b e = (omega (arith, a, b, e), omega (arith, a, b, e))

same_fid : (d e : Fid) → d.seq ≡ e.seq → d.oid ≡ e.oid → d.ver ≡ e.ver → d ≡ e
same_fid d e a b c = λ i. record { seq = a i; oid = b i; ver = c i }

one_of : (d e : Fid) (t u i j g h : ℕ) → Bounds d t i → Bounds e u j → stripe_of d t i g ≡ stripe_of e u j h → (d ≡ e) × (t ≡ u) × (i ≡ j) × (g ≡ h)
one_of d e t u i j g h a b same =
    let s = split t u ((d.seq - 0x200000400) / 0x100000) ((e.seq - 0x200000400) / 0x100000) ((d.seq - 0x200000400) % 0x100000) ((e.seq - 0x200000400) % 0x100000) (few d.seq a.high) (few e.seq b.high) a.near b.near (ap (λ (f : Fid). f.seq) same) in
    let v = versions i j g h a.index b.index (ap (λ (f : Fid). f.ver) same) in
    (same_fid d e (joined d.seq e.seq a.low b.low s.1 s.2) (ap (λ (f : Fid). f.oid) same) (a.plain ∙ sym b.plain), s.0, v.0, v.1)

pub one_stripe : OneStripePerFid
one_stripe d e t u i j g h f a b =
    let x = some_of (may d t i g) (stripe_of d t i g) f a in
    let y = some_of (may e u j h) (stripe_of e u j h) f b in
    one_of d e t u i j g h (bounds d t i g x.0) (bounds e u j h y.0) (x.1 ∙ sym y.1)

upper : ℕ → ℕ → ℕ
upper s t = base_of t + (0x80000 + ((s - base_of 0) / 0x100000 * 0x8000 + (s - base_of 0) % 0x100000))

in_own : (targets s t : ℕ) → t < targets → s < 0x201000400 → (s - 0x200000400) % 0x100000 < 0x8000 → (nat_le (base_of 0) (upper s t) && nat_lt (upper s t) (base_of targets)) ≡ true
unfolding upper
in_own targets s t below high near = grind (arith, nat_tests)

own_target : (s t : ℕ) → s < 0x201000400 → (s - 0x200000400) % 0x100000 < 0x8000 → (upper s t - base_of 0) / 0x100000 ≡ t
unfolding upper
own_target s t high near = omega (arith, high, near)

own_offset : (s t : ℕ) → s < 0x201000400 → (s - 0x200000400) % 0x100000 < 0x8000 → 0x80000 ≤ (upper s t - base_of 0) % 0x100000
unfolding upper
own_offset s t high near = omega (arith, high, near)

not_root : (s t : ℕ) → (upper s t == 0x200000007) ≡ false
unfolding upper
not_root s t = apart (upper s t) 0x200000007 (λ (e : upper s t ≡ 0x200000007). omega (arith, e))

place_at : (targets s t : ℕ) → t < targets → s < 0x201000400 → (s - 0x200000400) % 0x100000 < 0x8000
    → cond (upper s t == 0x200000007) (Some 0) (cond (nat_le (base_of 0) (upper s t) && nat_lt (upper s t) (base_of targets)) (Some ((upper s t - base_of 0) / 0x100000)) None) ≡ Some t
place_at targets s t below high near =
    let seq = upper s t in
    ap (λ b. cond b (Some 0) (cond (nat_le (base_of 0) seq && nat_lt seq (base_of targets)) (Some ((seq - base_of 0) / 0x100000)) None)) (not_root s t)
    ∙ ap (λ b. cond b (Some ((seq - base_of 0) / 0x100000)) None) (in_own targets s t below high near)
    ∙ ap Some (own_target s t high near)

stripe_at : (targets s t : ℕ) → t < targets → s < 0x201000400 → (s - 0x200000400) % 0x100000 < 0x8000
    → ((nat_le (base_of 0) (upper s t) && nat_lt (upper s t) (base_of targets)) && nat_le 0x80000 ((upper s t - base_of 0) % 0x100000)) ≡ true
stripe_at targets s t below high near =
    let far : nat_le 0x80000 ((upper s t - base_of 0) % 0x100000) ≡ true = let q = own_offset s t high near in grind (arith, nat_tests, q) in
    ap (λ b. b && nat_le 0x80000 ((upper s t - base_of 0) % 0x100000)) (in_own targets s t below high near) ∙ far

pub stripe_place : PlaceIsTarget
unfolding upper
stripe_place targets d t i g f below e =
    let x = some_of (may d t i g) (stripe_of d t i g) f e in
    let b = bounds d t i g x.0 in
    subst (λ h. (place_of targets h ≡ Some t) × (is_stripe targets h ≡ true)) x.1
    (place_at targets d.seq t below b.high b.near, stripe_at targets d.seq t below b.high b.near)
