-- A word spells at most one list of bytes.
use Rattle.std.proofs.Common.{◌≡◌, ◌≢◌, ◌<◌, ◌≤◌, ◌⊎◌, ◌==◌, ◌&&◌, ◌/◌, ◌%◌, ℕ, Bool, true, false, cond, Option, Some, IfSome, List, [], ◌∷◌, ◌++◌, inl, inr, refl, sym, ap, ◌∙◌, subst, arith, append_assoc, append-nil}
use Rattle.std.specs.List.{flat_map}
use Rattle.std.specs.Fmt.{digit_glyph}
use Rattle.std.specs.Cmp.Lexicographic.{pointwise}
use Rattle.std.proofs.lemmas.Bool.{false≢true, eq-eqb}
use Rattle.std.proofs.lemmas.Bool.Decides.{nat_tests}
use Rattle.fid_space.proofs.Splitting.{Lacks, lacks_append}
use Rattle.fid_space.specs.HexText.{hex_byte}
use Rattle.tree_model.specs.Names.{AreBytes, is_plain, name_byte, name_word}
use Rattle.fid_space.specs.HexText.{hex_text}

-- what holds of an option's value
pub at_some : {A : Type 0} (P : A → Type 0) (r : Option A) (v : A) → r ≡ Some v → IfSome r P → P v
at_some P r v e h = subst (λ o. IfSome o P) e h

pub by_bool : (t : Bool) → (t ≡ true) ⊎ (t ≡ false)
by_bool true = inl refl
by_bool false = inr refl

pub all_same : (xs : List ℕ) → pointwise ◌==◌ xs xs ≡ true
all_same [] = refl
all_same (x ∷ xs) = ap (λ t. t && pointwise ◌==◌ xs xs) (eq-eqb x x refl) ∙ all_same xs

one_glyph : (a b : ℕ) → a < 16 → b < 16 → digit_glyph false a ≡ digit_glyph false b → a ≡ b
one_glyph a b p q e = grind (arith, nat_tests)

glyph_high : (d : ℕ) → 48 ≤ digit_glyph false d
glyph_high d = grind (arith, nat_tests)

pub one_hex_byte : (a b : ℕ) → a < 256 → b < 256 → (r s : List ℕ) → hex_byte a ++ r ≡ hex_byte b ++ s → (a ≡ b) × (r ≡ s)
one_hex_byte a b p q r s e =
    let high : digit_glyph false (a / 16) ≡ digit_glyph false (b / 16) = cc in
    let low : digit_glyph false (a % 16) ≡ digit_glyph false (b % 16) = cc in
    let tail : r ≡ s = cc in
    let h : a / 16 ≡ b / 16 = one_glyph (a / 16) (b / 16) (omega (arith, p)) (omega (arith, q)) high in
    let l : a % 16 ≡ b % 16 = one_glyph (a % 16) (b % 16) (omega arith) (omega arith) low in
    (omega (arith, h, l), tail)

-- what a byte that stands for itself, and one that doesn't, is spelled as
plain_byte : (b : ℕ) → is_plain b ≡ true → name_byte b ≡ b ∷ []
plain_byte b h = ap (λ t. cond t (b ∷ []) (0x25 ∷ hex_byte b)) h

escaped_byte : (b : ℕ) → is_plain b ≡ false → name_byte b ≡ 0x25 ∷ hex_byte b
escaped_byte b h = ap (λ t. cond t (b ∷ []) (0x25 ∷ hex_byte b)) h

plain_percent : is_plain 0x25 ≡ false
plain_percent = refl

no_escape : (b : ℕ) (bs r s : List ℕ) → is_plain b ≡ true → b ∷ r ≡ 0x25 ∷ s → ⊥
no_escape b bs r s h e = let same : b ≡ 0x25 = cc in false≢true (sym plain_percent ∙ sym (ap is_plain same) ∙ h)

-- no spelling of a byte begins another's
one_byte : (a b : ℕ) → a < 256 → b < 256 → (r s : List ℕ) → name_byte a ++ r ≡ name_byte b ++ s → (a ≡ b) × (r ≡ s)
one_byte a b p q r s e =
    elim (by_bool (is_plain a)) [
      | inl x ↦
          elim (by_bool (is_plain b)) [
            | inl y ↦ let k : a ∷ r ≡ b ∷ s = sym (ap (λ l. l ++ r) (plain_byte a x)) ∙ e ∙ ap (λ l. l ++ s) (plain_byte b y) in (cc, cc)
            | inr y ↦ absurd (no_escape a [] r (hex_byte b ++ s) x (sym (ap (λ l. l ++ r) (plain_byte a x)) ∙ e ∙ ap (λ l. l ++ s) (escaped_byte b y)))
          ]
      | inr x ↦
          elim (by_bool (is_plain b)) [
            | inl y ↦ absurd (no_escape b [] s (hex_byte a ++ r) y (sym (ap (λ l. l ++ s) (plain_byte b y)) ∙ sym e ∙ ap (λ l. l ++ r) (escaped_byte a x)))
            | inr y ↦
                let k : 0x25 ∷ (hex_byte a ++ r) ≡ 0x25 ∷ (hex_byte b ++ s) = sym (ap (λ l. l ++ r) (escaped_byte a x)) ∙ e ∙ ap (λ l. l ++ s) (escaped_byte b y) in
                let t : hex_byte a ++ r ≡ hex_byte b ++ s = cc in
                one_hex_byte a b p q r s t
          ]
    ]

filled : (b : ℕ) (r : List ℕ) → name_byte b ++ r ≢ []
filled b r e =
    elim (by_bool (is_plain b)) [
      | inl x ↦ let k : b ∷ r ≡ [] = sym (ap (λ l. l ++ r) (plain_byte b x)) ∙ e in cc
      | inr x ↦ let k : 0x25 ∷ (hex_byte b ++ r) ≡ [] = sym (ap (λ l. l ++ r) (escaped_byte b x)) ∙ e in cc
    ]

-- bytes whose spelling begins with that of others begin with them
pub word_more : (xs ys r : List ℕ) → AreBytes xs → AreBytes ys → name_word xs ++ r ≡ name_word ys → (zs : List ℕ) × (ys ≡ xs ++ zs) × AreBytes zs × (r ≡ name_word zs)
word_more [] ys r p q e = (ys, refl, q, e)
word_more (x ∷ xs) [] r p q e = absurd (filled x (name_word xs ++ r) (sym (append_assoc (name_byte x) (name_word xs) r) ∙ e))
word_more (x ∷ xs) (y ∷ ys) r p q e =
    let first = one_byte x y p.0 q.0 (name_word xs ++ r) (name_word ys) (sym (append_assoc (name_byte x) (name_word xs) r) ∙ e) in
    let rest = word_more xs ys r p.1 q.1 first.1 in
    let same : y ∷ ys ≡ (x ∷ xs) ++ rest.0 = λ i. (sym first.0) i ∷ rest.1 i in
    (rest.0, same, rest.2, rest.3)

ends : (zs : List ℕ) → [] ≡ name_word zs → zs ≡ []
ends [] e = refl
ends (z ∷ zs) e = absurd (filled z (name_word zs) (sym e))

pub one_name : (xs ys : List ℕ) → AreBytes xs → AreBytes ys → name_word xs ≡ name_word ys → xs ≡ ys
one_name xs ys p q e =
    let more = word_more xs ys [] p q (append-nil (name_word xs) ∙ e) in
    sym (more.1 ∙ ap (λ l. xs ++ l) (ends more.0 more.3) ∙ append-nil xs)

-- what can't be spelled: where a spelling has begun, and no byte is spelled next
pub no_name : (xs r : List ℕ) → AreBytes xs → r ≢ [] → ((b : ℕ) (rest : List ℕ) → b < 256 → r ≢ name_byte b ++ rest) → (ys : List ℕ) → AreBytes ys → name_word xs ++ r ≢ name_word ys
no_name xs r p some none ys q e = let more = word_more xs ys r p q e in stuck r more.0 some none more.2 more.3
  where
    stuck : (r zs : List ℕ) → r ≢ [] → ((b : ℕ) (rest : List ℕ) → b < 256 → r ≢ name_byte b ++ rest) → AreBytes zs → r ≡ name_word zs → ⊥
    stuck r [] some none h e = some e
    stuck r (z ∷ zs) some none h e = none z (name_word zs) h.0 e

-- the same of pairs of digits
pub value_more : (xs ys r : List ℕ) → AreBytes xs → AreBytes ys → flat_map hex_byte xs ++ r ≡ flat_map hex_byte ys
    → (zs : List ℕ) × (ys ≡ xs ++ zs) × AreBytes zs × (r ≡ flat_map hex_byte zs)
value_more [] ys r p q e = (ys, refl, q, e)
value_more (x ∷ xs) [] r p q e = cc
value_more (x ∷ xs) (y ∷ ys) r p q e =
    let first = one_hex_byte x y p.0 q.0 (flat_map hex_byte xs ++ r) (flat_map hex_byte ys) (sym (append_assoc (hex_byte x) (flat_map hex_byte xs) r) ∙ e) in
    let rest = value_more xs ys r p.1 q.1 first.1 in
    let same : y ∷ ys ≡ (x ∷ xs) ++ rest.0 = λ i. (sym first.0) i ∷ rest.1 i in
    (rest.0, same, rest.2, rest.3)

no_digits : (zs : List ℕ) → [] ≡ flat_map hex_byte zs → zs ≡ []
no_digits [] e = refl
no_digits (z ∷ zs) e = cc

pub one_value : (xs ys : List ℕ) → AreBytes xs → AreBytes ys → flat_map hex_byte xs ≡ flat_map hex_byte ys → xs ≡ ys
one_value xs ys p q e =
    let more = value_more xs ys [] p q (append-nil (flat_map hex_byte xs) ∙ e) in
    sym (more.1 ∙ ap (λ l. xs ++ l) (no_digits more.0 more.3) ∙ append-nil xs)

pub no_value : (xs r : List ℕ) → AreBytes xs → r ≢ [] → ((b : ℕ) (rest : List ℕ) → b < 256 → r ≢ hex_byte b ++ rest) → (ys : List ℕ) → AreBytes ys → flat_map hex_byte xs ++ r ≢ flat_map hex_byte ys
no_value xs r p some none ys q e = let more = value_more xs ys r p q e in stuck r more.0 some none more.2 more.3
  where
    stuck : (r zs : List ℕ) → r ≢ [] → ((b : ℕ) (rest : List ℕ) → b < 256 → r ≢ hex_byte b ++ rest) → AreBytes zs → r ≡ flat_map hex_byte zs → ⊥
    stuck r [] some none h e = some e
    stuck r (z ∷ zs) some none h e = none z (flat_map hex_byte zs) h.0 e

pub one_hex : (xs ys : List ℕ) → AreBytes xs → AreBytes ys → hex_text xs ≡ hex_text ys → xs ≡ ys
one_hex [] [] p q e = refl
one_hex [] (y ∷ ys) p q e = cc
one_hex (x ∷ xs) [] p q e = cc
one_hex (x ∷ xs) (y ∷ ys) p q e = one_value (x ∷ xs) (y ∷ ys) p q e

digits_lack : (b : ℕ) (xs : List ℕ) → b < 33 → Lacks b (flat_map hex_byte xs)
digits_lack b [] low = tt
digits_lack b (x ∷ xs) low =
    let h = glyph_high (x / 16) in
    let l = glyph_high (x % 16) in
    ((λ e. absurd (omega (arith, low, e, h))), ((λ e. absurd (omega (arith, low, e, l))), digits_lack b xs low))

pub hex_lacks : (b : ℕ) (xs : List ℕ) → b < 33 → Lacks b (hex_text xs)
hex_lacks b [] low = ((λ (e : 45 ≡ b). absurd (omega (arith, low, e))), tt)
hex_lacks b (x ∷ xs) low = digits_lack b (x ∷ xs) low

-- a spelling has no blank and no control byte
byte_lacks : (b c : ℕ) → b < 33 → Lacks b (name_byte c)
byte_lacks b c low =
    elim (by_bool (is_plain c)) [
      | inl x ↦ subst (λ l. Lacks b l) (sym (plain_byte c x)) ((λ (e : c ≡ b). plain_high c x (omega (arith, low, e))), tt)
      | inr x ↦
          let h = glyph_high (c / 16) in
          let l = glyph_high (c % 16) in
          subst (λ l. Lacks b l) (sym (escaped_byte c x))
          ((λ (e : 0x25 ≡ b). absurd (omega (arith, low, e))), ((λ e. absurd (omega (arith, low, e, h))), ((λ e. absurd (omega (arith, low, e, l))), tt)))
    ]
  where
    plain_high : (c : ℕ) → is_plain c ≡ true → c < 33 → ⊥
    plain_high c x low = grind (arith, nat_tests)

pub name_lacks : (b : ℕ) (name : List ℕ) → b < 33 → Lacks b (name_word name)
name_lacks b [] low = tt
name_lacks b (c ∷ name) low = lacks_append b (name_byte c) (name_word name) (byte_lacks b c low) (name_lacks b name low)
