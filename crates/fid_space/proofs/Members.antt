-- Members of a set of targets: a set with one member more, and a set that covers another.
use Rattle.std.proofs.Common.{◌≡◌, ◌≢◌, ◌<◌, ◌↔◌, ◌⊎◌, ◌^◌, ◌+◌, ◌*◌, ◌%◌, ◌==◌, ◌&&◌, ◌||◌, not, ℕ, true, false, IsTrue, bit_and, bit_or, bit_xor, min, max, inl, inr, sym, ap, ◌∙◌, subst, arith}
use Rattle.std.specs.Int.{bit_at}
use Rattle.std.proofs.Math.Pow.{pow-lt}
use Rattle.std.proofs.lemmas.Bool.{eq-eqb, eqb-true}
use Rattle.std.proofs.lemmas.Bool.Decides.{eqb_tells, nat_tests}
use Rattle.std.proofs.lemmas.Nat.Bits.{bit_at-lt, bit_at-zero, bit_at_and, bit_at_or, bit_at_xor, bit_at-pow_same, bit_at-pow_other, same_from_bits, same_from_bits_below}
use Rattle.fid_space.specs.Targets.{is_member, joined, union, minus}

-- the empty set has no member
pub member_none : (t : ℕ) → is_member 0 t ≡ false
member_none t = ap (λ b. b == 1) (bit_at-zero t)

either_one : (a b : ℕ) → a < 2 → b < 2 → max a b ≡ 1 → (b ≢ 1) → a ≡ 1
either_one a b low small h n = omega (arith, h)

one_of_first : (a b : ℕ) → b < 2 → a ≡ 1 → max a b ≡ 1
one_of_first a b small h = omega (arith, h)

one_of_second : (a b : ℕ) → a < 2 → b ≡ 1 → max a b ≡ 1
one_of_second a b small h = omega (arith, h)

-- whoever is a member of the set with one member more was one, or is the new one
joined_only : (s k t : ℕ) → is_member (joined s k) t ≡ true → (is_member s t ≡ true) ⊎ (t ≡ k)
joined_only s k t h =
    elim (eqb_tells t k) [
      | inl e ↦ inr e.1
      | inr e ↦ let none : bit_at (2 ^ k) t ≡ 0 = bit_at-pow_other k t e.1 in
          let both : max (bit_at s t) (bit_at (2 ^ k) t) ≡ 1 = sym (bit_at_or s (2 ^ k) t) ∙ eqb-true (bit_at (joined s k) t) 1 h in
          inl (eq-eqb (bit_at s t) 1 (either_one (bit_at s t) (bit_at (2 ^ k) t) (bit_at-lt s t) (bit_at-lt (2 ^ k) t) both (λ (q : bit_at (2 ^ k) t ≡ 1). absurd (let zero_one : 0 ≡ 1 = sym none ∙ q in omega (arith, zero_one)))))
    ]

joined_all : (s k t : ℕ) → (is_member s t ≡ true) ⊎ (t ≡ k) → is_member (joined s k) t ≡ true
joined_all s k t (inl h) =
    eq-eqb (bit_at (joined s k) t) 1 (bit_at_or s (2 ^ k) t ∙ one_of_first (bit_at s t) (bit_at (2 ^ k) t) (bit_at-lt (2 ^ k) t) (eqb-true (bit_at s t) 1 h))
joined_all s k t (inr e) =
    eq-eqb (bit_at (joined s k) t) 1 (bit_at_or s (2 ^ k) t ∙ one_of_second (bit_at s t) (bit_at (2 ^ k) t) (bit_at-lt s t) (ap (λ i. bit_at (2 ^ k) i) e ∙ bit_at-pow_same k))

-- the members of the set with one member more
pub member_joined : (s t k : ℕ) → (is_member (joined s k) t ≡ true) ↔ ((is_member s t ≡ true) ⊎ (t ≡ k))
member_joined s t k = (joined_only s k t, joined_all s k t)

-- a shift of 1 that stays within 16 bits
shifted : (k : ℕ) → k < 16 → 1 * 2 ^ k % 65536 ≡ 2 ^ k
shifted k h = let low : 2 ^ k < 65536 = pow-lt h in omega (arith, low)

-- the same, of the set that the code makes from the bits of a set
pub member_shifted : (set bits t k : ℕ) → bits ≡ set → k < 16 → (is_member (bit_or bits (1 * 2 ^ k % 65536)) t ≡ true) ↔ ((is_member set t ≡ true) ⊎ (t ≡ k))
member_shifted set bits t k is h =
    subst (λ m. (is_member (bit_or bits m) t ≡ true) ↔ ((is_member set t ≡ true) ⊎ (t ≡ k))) (sym (shifted k h))
    (subst (λ s. (is_member (bit_or s (2 ^ k)) t ≡ true) ↔ ((is_member set t ≡ true) ⊎ (t ≡ k))) (sym is) (member_joined set t k))

both_one : (a b : ℕ) → a < 2 → min a b ≡ b → b ≡ 1 → a ≡ 1
both_one a b low h e = omega (arith, h, e)

same_least : (a b : ℕ) → a < 2 → b < 2 → (b ≡ 1 → a ≡ 1) → min a b ≡ b
same_least a b low small h = grind (arith, h)

-- one set covers another exactly where the bits that both have are the bits of the other
covers_all : (a b : ℕ) → bit_and a b ≡ b → (t : ℕ) → is_member b t ≡ true → is_member a t ≡ true
covers_all a b h t e =
    let kept : min (bit_at a t) (bit_at b t) ≡ bit_at b t = sym (bit_at_and a b t) ∙ ap (λ n. bit_at n t) h in
    eq-eqb (bit_at a t) 1 (both_one (bit_at a t) (bit_at b t) (bit_at-lt a t) kept (eqb-true (bit_at b t) 1 e))

covers_only : (a b : ℕ) → ((t : ℕ) → is_member b t ≡ true → is_member a t ≡ true) → bit_and a b ≡ b
covers_only a b h =
    same_from_bits (bit_and a b) b
    (λ t. bit_at_and a b t ∙ same_least (bit_at a t) (bit_at b t) (bit_at-lt a t) (bit_at-lt b t) (λ (e : bit_at b t ≡ 1). eqb-true (bit_at a t) 1 (h t (eq-eqb (bit_at b t) 1 e))))

pub member_covers : (a b : ℕ) → IsTrue (bit_and a b == b) ↔ ((t : ℕ) → is_member b t ≡ true → is_member a t ≡ true)
member_covers a b = (λ h. covers_all a b (eqb-true (bit_and a b) b h), λ h. eq-eqb (bit_and a b) b (covers_only a b h))

-- the same, of the bits of two sets
pub member_covers_bits : (set bits other other_bits : ℕ) → bits ≡ set → other_bits ≡ other → IsTrue (bit_and bits other_bits == other_bits) ↔ ((t : ℕ) → is_member other t ≡ true → is_member set t ≡ true)
member_covers_bits set bits other other_bits is other_is =
    subst (λ m. IsTrue (bit_and bits m == m) ↔ ((t : ℕ) → is_member other t ≡ true → is_member set t ≡ true)) (sym other_is)
    (subst (λ s. IsTrue (bit_and s other == other) ↔ ((t : ℕ) → is_member other t ≡ true → is_member set t ≡ true)) (sym is) (member_covers set other))

-- ---- the members of a set that is made of others, as tests

one_or : (a b : ℕ) → a < 2 → b < 2 → (max a b == 1) ≡ ((a == 1) || (b == 1))
one_or a b low small = grind (arith, nat_tests)

one_minus : (a b : ℕ) → a < 2 → b < 2 → ((a + min a b) % 2 == 1) ≡ ((a == 1) && not (b == 1))
one_minus a b low small = grind (arith, nat_tests)

pub member_union : (a b t : ℕ) → is_member (union a b) t ≡ (is_member a t || is_member b t)
member_union a b t = ap (λ n. n == 1) (bit_at_or a b t) ∙ one_or (bit_at a t) (bit_at b t) (bit_at-lt a t) (bit_at-lt b t)

pub member_minus : (a b t : ℕ) → is_member (minus a b) t ≡ (is_member a t && not (is_member b t))
member_minus a b t =
    ap (λ n. n == 1) (bit_at_xor a (bit_and a b) t)
    ∙ ap (λ n. (bit_at a t + n) % 2 == 1) (bit_at_and a b t)
    ∙ one_minus (bit_at a t) (bit_at b t) (bit_at-lt a t) (bit_at-lt b t)

member_alone : (k t : ℕ) → is_member (2 ^ k) t ≡ (t == k)
member_alone k t =
    elim (eqb_tells t k) [
      | inl e ↦ eq-eqb (bit_at (2 ^ k) t) 1 (ap (λ i. bit_at (2 ^ k) i) e.1 ∙ bit_at-pow_same k) ∙ sym e.0
      | inr e ↦ ap (λ n. n == 1) (bit_at-pow_other k t e.1) ∙ sym e.0
    ]

pub member_joined_test : (set k t : ℕ) → is_member (joined set k) t ≡ (is_member set t || (t == k))
member_joined_test set k t = member_union set (2 ^ k) t ∙ ap (λ b. is_member set t || b) (member_alone k t)

-- the same, of the bits of two sets
pub member_union_bits : (set bits other other_bits t : ℕ) → bits ≡ set → other_bits ≡ other → is_member (bit_or bits other_bits) t ≡ (is_member set t || is_member other t)
member_union_bits set bits other other_bits t is other_is = ap (λ n. is_member (bit_or n other_bits) t) is ∙ ap (λ n. is_member (bit_or set n) t) other_is ∙ member_union set other t

pub member_minus_bits : (set bits other other_bits t : ℕ) → bits ≡ set → other_bits ≡ other → is_member (bit_xor bits (bit_and bits other_bits)) t ≡ (is_member set t && not (is_member other t))
member_minus_bits set bits other other_bits t is other_is =
    ap (λ n. is_member (bit_xor n (bit_and n other_bits)) t) is ∙ ap (λ n. is_member (bit_xor set (bit_and set n)) t) other_is ∙ member_minus set other t

-- ---- two sets with the same members are one

same_bit : (a b : ℕ) → a < 2 → b < 2 → (a == 1) ≡ (b == 1) → a ≡ b
same_bit a b low small e =
    elim (eqb_tells a 1) [
      | inl x ↦ x.1 ∙ sym (eqb-true b 1 (sym e ∙ x.0))
      | inr x ↦ elim (eqb_tells b 1) [
        | inl y ↦ absurd (x.1 (eqb-true a 1 (e ∙ y.0)))
        | inr y ↦ let p = x.1 in let q = y.1 in omega (arith, p, q)
      ]
    ]

pub same_members : (a b : ℕ) → ((t : ℕ) → is_member a t ≡ is_member b t) → a ≡ b
same_members a b h = same_from_bits a b (λ t. same_bit (bit_at a t) (bit_at b t) (bit_at-lt a t) (bit_at-lt b t) (h t))

pub same_members_below : (a b : ℕ) → a < 2 ^ 16 → b < 2 ^ 16 → ((t : ℕ) → t < 16 → is_member a t ≡ is_member b t) → a ≡ b
same_members_below a b low small h =
    same_from_bits_below 16 a b low small (λ t below. same_bit (bit_at a t) (bit_at b t) (bit_at-lt a t) (bit_at-lt b t) (h t below))
