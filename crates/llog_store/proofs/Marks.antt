-- Bitmaps: each bit says what the test says, bitmaps with the same bits are the same, and the set bits are
-- as many as the indexes that pass the test.
use Rattle.std.proofs.Common.{◌≡◌, ◌≢◌, ℕ, zero, suc, ◌+◌, ◌*◌, ◌/◌, ◌%◌, ◌^◌, ◌<◌, ◌≤◌, Bool, true, false, cond, eqb, List, [], ◌∷◌, length, get_or, set, Option, Some, None, refl, sym, ap, subst, ◌∙◌, arith, inl, inr, bit_or, bit_and}
use Rattle.std.specs.Int.{bit_at, bit_not, w8}
use Rattle.std.specs.Int.RustNames.{count_ones}
use Rattle.std.specs.Option.{option_map}
use lib.Lanes.{mask_l}
use Rattle.std.proofs.lemmas.Bool.{eq-eqb, cases_lt}
use Rattle.std.proofs.lemmas.Bool.Decides.{eqb_tells}
use Rattle.std.proofs.lemmas.List.{ext_get_or, get_or-set_same, get_or-set_other, length-set}
use Rattle.std.proofs.lemmas.Simd.{bit_mask_l, mask_l-lt, ones-mask_l_cons}
use Rattle.std.proofs.lemmas.Nat.{and_le_l, or_of_8, zero_from_ones}
use Rattle.std.proofs.lemmas.Nat.Bits.{same_from_bits_below, bit_at_set_same, bit_at_set_other, bit_at_clear_same, bit_at_clear_other}
use Rattle.llog_store.specs.Numbers.{zeros}
use Rattle.llog_store.specs.Bitmap.{flags, byte_of, bytes_of, bitmap, bit_of, set_bits, first_other}

length-flags : (p : ℕ → Bool) (from n : ℕ) → length (flags p from n) ≡ n
unfolding flags
length-flags p from zero = refl
length-flags p from (suc n) = ap (λ (k : ℕ). suc k) (length-flags p (from + 1) n)

flag_at : (p : ℕ → Bool) (from n i : ℕ) → i < n → get_or (flags p from n) i false ≡ p (from + i)
unfolding flags
flag_at p from zero i lt = absurd (omega arith)
flag_at p from (suc n) zero lt = let e : from ≡ from + 0 = omega arith in ap p e
flag_at p from (suc n) (suc i) lt = let e : from + 1 + i ≡ from + suc i = omega arith in flag_at p (from + 1) n i (omega arith) ∙ ap p e

flags_same : (p q : ℕ → Bool) (from n : ℕ) → ((i : ℕ) → from ≤ i → i < from + n → p i ≡ q i) → flags p from n ≡ flags q from n
unfolding flags
flags_same p q from zero h = refl
flags_same p q from (suc n) h =
    let first : p from ≡ q from = h from (omega arith) (omega arith) in
    let others = flags_same p q (from + 1) n (λ i le lt. h i (omega arith) (omega arith)) in
    rw (first, others) refl

pub byte_bit : (p : ℕ → Bool) (k i : ℕ) → i < 8 → bit_at (byte_of p k) i ≡ cond (p (8 * k + i)) 1 0
unfolding byte_of
byte_bit p k i lt = bit_mask_l (flags p (8 * k) 8) i ∙ ap (λ (b : Bool). cond b 1 0) (flag_at p (8 * k) 8 i lt)

pub byte_below : (p : ℕ → Bool) (k : ℕ) → byte_of p k < 256
unfolding byte_of
byte_below p k = let len : length (flags p (8 * k) 8) ≡ 8 = length-flags p (8 * k) 8 in subst (λ (n : ℕ). mask_l (flags p (8 * k) 8) < 2 ^ n) len (mask_l-lt (flags p (8 * k) 8))

byte_same : (p q : ℕ → Bool) (k : ℕ) → ((i : ℕ) → 8 * k ≤ i → i < 8 * k + 8 → p i ≡ q i) → byte_of p k ≡ byte_of q k
unfolding byte_of
byte_same p q k h = ap mask_l (flags_same p q (8 * k) 8 h)

pub length-bytes_of : (p : ℕ → Bool) (k n : ℕ) → length (bytes_of p k n) ≡ n
unfolding bytes_of
length-bytes_of p k zero = refl
length-bytes_of p k (suc n) = ap (λ (m : ℕ). suc m) (length-bytes_of p (k + 1) n)

byte_at : (p : ℕ → Bool) (k n i : ℕ) → i < n → get_or (bytes_of p k n) i 0 ≡ byte_of p (k + i)
unfolding bytes_of
byte_at p k zero i lt = absurd (omega arith)
byte_at p k (suc n) zero lt = let e : k ≡ k + 0 = omega arith in ap (byte_of p) e
byte_at p k (suc n) (suc i) lt = let e : k + 1 + i ≡ k + suc i = omega arith in byte_at p (k + 1) n i (omega arith) ∙ ap (byte_of p) e

pub bytes_same : (p q : ℕ → Bool) (k n : ℕ) → ((i : ℕ) → p i ≡ q i) → bytes_of p k n ≡ bytes_of q k n
unfolding bytes_of
bytes_same p q k zero h = refl
bytes_same p q k (suc n) h = rw (byte_same p q k (λ i _ _. h i), bytes_same p q (k + 1) n h) refl

pub length-bitmap : (p : ℕ → Bool) → length (bitmap p) ≡ 32000
length-bitmap p = length-bytes_of p 0 32000

pub bitmap_at : (p : ℕ → Bool) (i : ℕ) → i < 32000 → get_or (bitmap p) i 0 ≡ byte_of p i
bitmap_at p i lt = let e : 0 + i ≡ i = omega arith in byte_at p 0 32000 i lt ∙ ap (byte_of p) e

one_or_zero : (b : Bool) → eqb (cond b 1 0) 1 ≡ b
one_or_zero true = refl
one_or_zero false = refl

or_below : (a b : ℕ) → a < 256 → b < 256 → bit_or a b < 256
or_below a b small low = or_of_8 a b small low

and_below : (a b : ℕ) → a < 256 → bit_and a b < 256
and_below a b small = omega (arith, and_le_l a b)

-- the bit of each index is what the test says
pub bit_is : (p : ℕ → Bool) (i : ℕ) → i < 256000 → bit_of (bitmap p) i ≡ p i
unfolding bit_of
bit_is p i lt =
    let low : i / 8 < 32000 = omega arith in
    let within : i % 8 < 8 = omega arith in
    let back : 8 * (i / 8) + i % 8 ≡ i = omega arith in
    let e : bit_at (get_or (bitmap p) (i / 8) 0) (i % 8) ≡ cond (p i) 1 0 = ap (λ (b : ℕ). bit_at b (i % 8)) (bitmap_at p (i / 8) low) ∙ byte_bit p (i / 8) (i % 8) within ∙ ap (λ (j : ℕ). cond (p j) 1 0) back in
    ap (λ (b : ℕ). eqb b 1) e ∙ one_or_zero (p i)

-- ---- one bit set or cleared

-- the byte with one bit more
byte_with : (p q : ℕ → Bool) (m : ℕ) → ((i : ℕ) → i ≢ m → q i ≡ p i) → q m ≡ true → byte_of q (m / 8) ≡ bit_or (byte_of p (m / 8)) (1 * 2 ^ (m % 8) % 256)
byte_with p q m others here =
    let within : m % 8 < 8 = omega arith in
    same_from_bits_below 8 (byte_of q (m / 8)) (bit_or (byte_of p (m / 8)) (1 * 2 ^ (m % 8) % 256)) (byte_below q (m / 8)) (or_below (byte_of p (m / 8)) (1 * 2 ^ (m % 8) % 256) (byte_below p (m / 8)) (omega arith))
    (λ i lt. elim (eqb_tells i (m % 8)) [
      | inl e ↦
          let back : 8 * (m / 8) + i ≡ m = let same = e.1 in omega arith in
          let left : bit_at (byte_of q (m / 8)) i ≡ 1 = byte_bit q (m / 8) i lt ∙ ap (λ (j : ℕ). cond (q j) 1 0) back ∙ ap (λ (b : Bool). cond b 1 0) here in
          let right : bit_at (bit_or (byte_of p (m / 8)) (1 * 2 ^ (m % 8) % 256)) i ≡ 1 = ap (λ (j : ℕ). bit_at (bit_or (byte_of p (m / 8)) (1 * 2 ^ (m % 8) % 256)) j) e.1 ∙ bit_at_set_same w8 (byte_of p (m / 8)) (m % 8) within in
          left ∙ sym right
      | inr e ↦
          let differ = e.1 in
          let away : 8 * (m / 8) + i ≢ m = λ (same : 8 * (m / 8) + i ≡ m). differ (omega arith) in
          let left : bit_at (byte_of q (m / 8)) i ≡ cond (p (8 * (m / 8) + i)) 1 0 = byte_bit q (m / 8) i lt ∙ ap (λ (b : Bool). cond b 1 0) (others (8 * (m / 8) + i) away) in
          let right : bit_at (bit_or (byte_of p (m / 8)) (1 * 2 ^ (m % 8) % 256)) i ≡ cond (p (8 * (m / 8) + i)) 1 0 = bit_at_set_other w8 (byte_of p (m / 8)) (m % 8) within i differ ∙ byte_bit p (m / 8) i lt in
          left ∙ sym right
    ])

-- the byte with one bit less
byte_without : (p q : ℕ → Bool) (m : ℕ) → ((i : ℕ) → i ≢ m → q i ≡ p i) → q m ≡ false → byte_of q (m / 8) ≡ bit_and (byte_of p (m / 8)) (bit_not w8 (1 * 2 ^ (m % 8) % 256))
byte_without p q m others here =
    let within : m % 8 < 8 = omega arith in
    same_from_bits_below 8 (byte_of q (m / 8)) (bit_and (byte_of p (m / 8)) (bit_not w8 (1 * 2 ^ (m % 8) % 256))) (byte_below q (m / 8)) (and_below (byte_of p (m / 8)) (bit_not w8 (1 * 2 ^ (m % 8) % 256)) (byte_below p (m / 8)))
    (λ i lt. elim (eqb_tells i (m % 8)) [
      | inl e ↦
          let back : 8 * (m / 8) + i ≡ m = let same = e.1 in omega arith in
          let left : bit_at (byte_of q (m / 8)) i ≡ 0 = byte_bit q (m / 8) i lt ∙ ap (λ (j : ℕ). cond (q j) 1 0) back ∙ ap (λ (b : Bool). cond b 1 0) here in
          let right : bit_at (bit_and (byte_of p (m / 8)) (bit_not w8 (1 * 2 ^ (m % 8) % 256))) i ≡ 0 = ap (λ (j : ℕ). bit_at (bit_and (byte_of p (m / 8)) (bit_not w8 (1 * 2 ^ (m % 8) % 256))) j) e.1 ∙ bit_at_clear_same w8 (byte_of p (m / 8)) (m % 8) within in
          left ∙ sym right
      | inr e ↦
          let differ = e.1 in
          let away : 8 * (m / 8) + i ≢ m = λ (same : 8 * (m / 8) + i ≡ m). differ (omega arith) in
          let left : bit_at (byte_of q (m / 8)) i ≡ cond (p (8 * (m / 8) + i)) 1 0 = byte_bit q (m / 8) i lt ∙ ap (λ (b : Bool). cond b 1 0) (others (8 * (m / 8) + i) away) in
          let right : bit_at (bit_and (byte_of p (m / 8)) (bit_not w8 (1 * 2 ^ (m % 8) % 256))) i ≡ cond (p (8 * (m / 8) + i)) 1 0 = bit_at_clear_other w8 (byte_of p (m / 8)) (m % 8) within i lt differ ∙ byte_bit p (m / 8) i lt in
          left ∙ sym right
    ])

bitmap_changed : (p q : ℕ → Bool) (m b : ℕ) → m < 256000 → ((i : ℕ) → i ≢ m → q i ≡ p i) → byte_of q (m / 8) ≡ b → bitmap q ≡ set (bitmap p) (m / 8) b
bitmap_changed p q m b lt others here =
    ext_get_or 0 (bitmap q) (set (bitmap p) (m / 8) b) (length-bitmap q ∙ sym (length-set (bitmap p) (m / 8) b ∙ length-bitmap p))
    (λ i within.
    let low : i < 32000 = omega (arith, length-bitmap q) in
    elim (eqb_tells i (m / 8)) [
      | inl e ↦
          let inside : m / 8 < length (bitmap p) = omega (arith, length-bitmap p) in
          bitmap_at q i low ∙ ap (byte_of q) e.1 ∙ here ∙ sym (ap (λ (j : ℕ). get_or (set (bitmap p) (m / 8) b) j 0) e.1 ∙ get_or-set_same (bitmap p) (m / 8) b 0 inside)
      | inr e ↦
          let differ = e.1 in
          bitmap_at q i low ∙ byte_same q p i (λ j le below. others j (λ (same : j ≡ m). differ (omega arith))) ∙ sym (get_or-set_other (bitmap p) (m / 8) i b 0 differ ∙ bitmap_at p i low)
    ])

pub bitmap_with : (p q : ℕ → Bool) (m : ℕ) → m < 256000 → ((i : ℕ) → i ≢ m → q i ≡ p i) → q m ≡ true → bitmap q ≡ set (bitmap p) (m / 8) (bit_or (get_or (bitmap p) (m / 8) 0) (1 * 2 ^ (m % 8) % 256))
bitmap_with p q m lt others here =
    let low : m / 8 < 32000 = omega arith in
    bitmap_changed p q m _ lt others (byte_with p q m others here ∙ ap (λ (b : ℕ). bit_or b (1 * 2 ^ (m % 8) % 256)) (sym (bitmap_at p (m / 8) low)))

pub bitmap_without : (p q : ℕ → Bool) (m : ℕ) → m < 256000 → ((i : ℕ) → i ≢ m → q i ≡ p i) → q m ≡ false → bitmap q ≡ set (bitmap p) (m / 8) (bit_and (get_or (bitmap p) (m / 8) 0) (bit_not w8 (1 * 2 ^ (m % 8) % 256)))
bitmap_without p q m lt others here =
    let low : m / 8 < 32000 = omega arith in
    bitmap_changed p q m _ lt others (byte_without p q m others here ∙ ap (λ (b : ℕ). bit_and b (bit_not w8 (1 * 2 ^ (m % 8) % 256))) (sym (bitmap_at p (m / 8) low)))

-- ---- how many bits are set

-- how many of the flags are true
trues : List Bool → ℕ
trues [] = 0
trues (b ∷ bs) = cond b 1 0 + trues bs

ones_are : (bs : List Bool) → count_ones (mask_l bs) ≡ trues bs
unfolding trues count_ones
ones_are [] = refl
ones_are (b ∷ bs) = ones-mask_l_cons b bs ∙ ap (λ (n : ℕ). cond b 1 0 + n) (ones_are bs)

trues_more : (p q : ℕ → Bool) (from n m : ℕ) → from ≤ m → m < from + n → ((i : ℕ) → i ≢ m → q i ≡ p i) → p m ≡ false → q m ≡ true → trues (flags q from n) ≡ suc (trues (flags p from n))
unfolding trues flags
trues_more p q from zero m le lt others was is = absurd (omega arith)
trues_more p q from (suc n) m le lt others was is =
    elim (eqb_tells m from) [
      | inl e ↦
          let same = e.1 in
          let rest : flags q (from + 1) n ≡ flags p (from + 1) n = flags_same q p (from + 1) n (λ i low high. others i (λ (h : i ≡ m). absurd (omega arith))) in
          let first : q from ≡ true = ap q (sym same) ∙ is in
          let second : p from ≡ false = ap p (sym same) ∙ was in
          rw (first, second, rest) (omega arith)
      | inr e ↦
          let differ = e.1 in
          let first : q from ≡ p from = others from (λ (h : from ≡ m). differ (sym h)) in
          let more = trues_more p q (from + 1) n m (omega arith) (omega arith) others was is in
          rw (first, more) (omega arith)
    ]

ones_more : (p q : ℕ → Bool) (k m : ℕ) → 8 * k ≤ m → m < 8 * k + 8 → ((i : ℕ) → i ≢ m → q i ≡ p i) → p m ≡ false → q m ≡ true → count_ones (byte_of q k) ≡ suc (count_ones (byte_of p k))
unfolding byte_of
ones_more p q k m le lt others was is = ones_are (flags q (8 * k) 8) ∙ trues_more p q (8 * k) 8 m le lt others was is ∙ ap (λ (n : ℕ). suc n) (sym (ones_are (flags p (8 * k) 8)))

bytes_after : (p q : ℕ → Bool) (k n : ℕ) → ((i : ℕ) → 8 * k ≤ i → p i ≡ q i) → bytes_of p k n ≡ bytes_of q k n
unfolding bytes_of
bytes_after p q k zero h = refl
bytes_after p q k (suc n) h = rw (byte_same p q k (λ i low high. h i low), bytes_after p q (k + 1) n (λ i low. h i (omega arith))) refl

bits_more : (p q : ℕ → Bool) (k n m : ℕ) → 8 * k ≤ m → m < 8 * (k + n) → ((i : ℕ) → i ≢ m → q i ≡ p i) → p m ≡ false → q m ≡ true → set_bits (bytes_of q k n) ≡ suc (set_bits (bytes_of p k n))
unfolding bytes_of set_bits
bits_more p q k zero m le lt others was is = absurd (omega arith)
bits_more p q k (suc n) m le lt others was is =
    elim (cases_lt m (8 * k + 8)) [
      | inl inside ↦
          let first = ones_more p q k m le inside others was is in
          let rest : bytes_of q (k + 1) n ≡ bytes_of p (k + 1) n = bytes_after q p (k + 1) n (λ i low. others i (λ (h : i ≡ m). absurd (omega arith))) in
          rw (first, rest) (omega arith)
      | inr after ↦
          let first : byte_of q k ≡ byte_of p k = byte_same q p k (λ i low high. others i (λ (h : i ≡ m). absurd (omega arith))) in
          let more = bits_more p q (k + 1) n m (omega arith) (omega arith) others was is in
          rw (first, more) (omega arith)
    ]

-- one index more that passes the test
pub one_more_set : (p q : ℕ → Bool) (m : ℕ) → m < 256000 → ((i : ℕ) → i ≢ m → q i ≡ p i) → p m ≡ false → q m ≡ true → set_bits (bitmap q) ≡ suc (set_bits (bitmap p))
one_more_set p q m lt others was is = bits_more p q 0 32000 m (omega arith) (omega arith) others was is

none_true : (from n : ℕ) → trues (flags (λ _. false) from n) ≡ 0
unfolding trues flags
none_true from zero = refl
none_true from (suc n) = rw (none_true (from + 1) n) refl

byte_none : (k : ℕ) → byte_of (λ _. false) k ≡ 0
unfolding byte_of
byte_none k = zero_from_ones (mask_l (flags (λ _. false) (8 * k) 8)) (ones_are (flags (λ _. false) (8 * k) 8) ∙ none_true (8 * k) 8)

-- the bytes of a bitmap without bits
pub bytes_none : (k n : ℕ) → bytes_of (λ _. false) k n ≡ zeros n
unfolding bytes_of zeros
bytes_none k zero = refl
bytes_none k (suc n) = rw (byte_none k, bytes_none (k + 1) n) refl

zeros_count : (n : ℕ) → set_bits (zeros n) ≡ 0
unfolding set_bits zeros count_ones
zeros_count zero = refl
zeros_count (suc n) = rw (zeros_count n) refl

pub none_set : set_bits (bitmap (λ _. false)) ≡ 0
none_set = ap set_bits (bytes_none 0 32000) ∙ zeros_count 32000

-- ---- bitmaps that differ nowhere

none_shifted : (o : Option ℕ) → option_map (λ i. suc i) o ≡ None → o ≡ None
none_shifted None e = refl
none_shifted (Some i) e = absurd cc

pub same_bytes : (xs ys : List ℕ) → length xs ≡ length ys → first_other xs ys ≡ None → xs ≡ ys
same_bytes [] [] len e = refl
same_bytes [] (y ∷ ys) len e = absurd (omega (arith, len))
same_bytes (x ∷ xs) [] len e = absurd (omega (arith, len))
same_bytes (x ∷ xs) (y ∷ ys) len e =
    elim (eqb_tells x y) [
      | inl h ↦ let rest : option_map (λ i. suc i) (first_other xs ys) ≡ None = sym (rw h.0 refl) ∙ e in
          let others = same_bytes xs ys (omega (arith, len)) (none_shifted (first_other xs ys) rest) in
          rw (h.1, others) refl
      | inr h ↦ let some : cond (eqb x y) (option_map (λ i. suc i) (first_other xs ys)) (Some 0) ≡ Some 0 = rw h.0 refl in absurd (let bad : Some 0 ≡ None = sym some ∙ e in cc)
    ]

pub no_other_of_same : (xs : List ℕ) → first_other xs xs ≡ None
no_other_of_same [] = refl
no_other_of_same (x ∷ xs) = rw (eq-eqb x x refl, no_other_of_same xs) refl
