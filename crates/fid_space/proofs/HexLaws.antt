-- Hexadecimal digits without a leading zero are what is written of their number, and what is written is read again.
use Rattle.std.proofs.Common.{◌≡◌, ◌≢◌, ◌<◌, ◌≤◌, ◌+◌, ◌*◌, ◌/◌, ◌%◌, ◌==◌, ℕ, zero, suc, true, false, cond, List, [], ◌∷◌, ◌++◌, length, take, get_or, sym, ap, ◌∙◌, arith, append_assoc, append-nil, add-one}
use Rattle.std.specs.List.{AllByRecursion}
use Rattle.std.specs.Char.{digit_value}
use Rattle.std.specs.Fmt.{digits, digits_onto, digit_glyph}
use Rattle.std.specs.Str.Parse.{digits_value}
use Rattle.std.proofs.lemmas.Bool.Decides.{nat_tests}
use Rattle.std.proofs.lemmas.Int.Digits.{digits_value_more}
use Rattle.std.proofs.lemmas.List.{take_more, take_all}
use Rattle.fid_space.specs.FidReading.{is_hex, hex_run}
use Rattle.fid_space.specs.FidText.{hex}
use Rattle.fid_space.proofs.Splitting.{apart}
use Rattle.fid_space.proofs.Hex.{at_hex}

glyph_again : (c : ℕ) → is_hex c ≡ true → digit_glyph false (digit_value c) ≡ c
glyph_again c h = grind (arith, nat_tests)

pub value_small : (c : ℕ) → is_hex c ≡ true → digit_value c < 16
value_small c h = grind (arith, nat_tests)

value_above : (c : ℕ) → is_hex c ≡ true → c ≢ 48 → 0 < digit_value c
value_above c h n = grind (arith, nat_tests)

pub glyph_hex : (d : ℕ) → d < 16 → is_hex (digit_glyph false d) ≡ true
glyph_hex d h = grind (arith, nat_tests)

unfoldable pub step : ℕ → ℕ → ℕ → List ℕ → List ℕ
step k q r acc = cond (q == 0) (digit_glyph false r ∷ acc) (digits_onto k 16 false q (digit_glyph false r ∷ acc))

pub onto_last : (k n : ℕ) (acc : List ℕ) → n < 16 → digits_onto (suc k) 16 false n acc ≡ digit_glyph false n ∷ acc
unfolding step
onto_last k n acc h =
    let q : n / 16 ≡ 0 = omega arith in
    let r : n % 16 ≡ n = omega arith in
    ap (λ x. step k x (n % 16) acc) q ∙ ap (λ x. step k 0 x acc) r

pub onto_more : (k m d : ℕ) (acc : List ℕ) → 0 < m → d < 16 → digits_onto (suc k) 16 false (m * 16 + d) acc ≡ digits_onto k 16 false m (digit_glyph false d ∷ acc)
unfolding step
onto_more k m d acc low high =
    let q : (m * 16 + d) / 16 ≡ m = omega arith in
    let r : (m * 16 + d) % 16 ≡ d = omega arith in
    let some : (m == 0) ≡ false = apart m 0 (λ (e : m ≡ 0). omega (arith, e, low)) in
    ap (λ x. step k x ((m * 16 + d) % 16) acc) q ∙ ap (λ x. step k m x acc) r ∙ ap (λ b. cond b (digit_glyph false d ∷ acc) (digits_onto k 16 false m (digit_glyph false d ∷ acc))) some

-- the number of a front is above 0 where the first digit is
front_above : (ds : List ℕ) (i : ℕ) → AllByRecursion (λ c. is_hex c ≡ true) ds → i < length ds → get_or ds 0 0 ≢ 48 → 0 < digits_value 16 (take (i + 1) ds)
front_above ds zero h low lead =
    let more = digits_value_more 16 ds 0 low in
    let above = value_above (get_or ds 0 0) (at_hex ds 0 h low) lead in
    omega (arith, more, above)
front_above ds (suc i) h low lead =
    let more = digits_value_more 16 ds (suc i) low in
    let before = front_above ds i h (omega (arith, low)) lead in
    let same : digits_value 16 (take (i + 1) ds) ≡ digits_value 16 (take (suc i) ds) = ap (λ k. digits_value 16 (take k ds)) (add-one i) in
    omega (arith, more, before, same)

pub hex_front : (k i : ℕ) (ds acc : List ℕ) → AllByRecursion (λ c. is_hex c ≡ true) ds → (1 < length ds → get_or ds 0 0 ≢ 48) → i < length ds → i < k
    → digits_onto k 16 false (digits_value 16 (take (i + 1) ds)) acc ≡ take (i + 1) ds ++ acc
hex_front zero i ds acc h lead low few = absurd (omega arith)
hex_front (suc k) zero ds acc h lead low few =
    let d = get_or ds 0 0 in
    let ok = at_hex ds 0 h low in
    let is : digits_value 16 (take 1 ds) ≡ digit_value d = let more = digits_value_more 16 ds 0 low in omega (arith, more) in
    ap (λ n. digits_onto (suc k) 16 false n acc) is ∙ onto_last k (digit_value d) acc (value_small d ok) ∙ ap (λ x. x ∷ acc) (glyph_again d ok) ∙ ap (λ l. l ++ acc) (sym (take_more ds 0 0 low))
hex_front (suc k) (suc i) ds acc h lead low few =
    let d = get_or ds (suc i) 0 in
    let ok = at_hex ds (suc i) h low in
    let shift : take (i + 1) ds ≡ take (suc i) ds = ap (λ j. take j ds) (add-one i) in
    let m = digits_value 16 (take (i + 1) ds) in
    let is : digits_value 16 (take (suc i + 1) ds) ≡ m * 16 + digit_value d = digits_value_more 16 ds (suc i) low ∙ ap (λ l. digits_value 16 l * 16 + digit_value d) (sym shift) in
    let above : 0 < m = front_above ds i h (omega (arith, low)) (lead (omega (arith, low))) in
    ap (λ n. digits_onto (suc k) 16 false n acc) is ∙ onto_more k m (digit_value d) acc above (value_small d ok)
    ∙ ap (λ x. digits_onto k 16 false m (x ∷ acc)) (glyph_again d ok)
    ∙ hex_front k i ds (d ∷ acc) h lead (omega (arith, low)) (omega (arith, few))
    ∙ sym (append_assoc (take (i + 1) ds) (d ∷ []) acc) ∙ ap (λ l. (l ++ d ∷ []) ++ acc) shift ∙ ap (λ l. l ++ acc) (sym (take_more ds (suc i) 0 low))

-- digits without a leading zero are what is written of their number
pub hex_again : (ds : List ℕ) → AllByRecursion (λ c. is_hex c ≡ true) ds → (1 < length ds → get_or ds 0 0 ≢ 48) → 0 < length ds → length ds ≤ 16 → hex (digits_value 16 ds) ≡ ds
unfolding digits
hex_again [] h lead some few = absurd (omega arith)
hex_again (x ∷ xs) h lead some few =
    let ds = x ∷ xs in
    let whole : take (length xs + 1) ds ≡ ds = take_all (length xs + 1) ds (omega arith) in
    ap (λ l. digits_onto 64 16 false (digits_value 16 l) []) (sym whole) ∙ hex_front 64 (length xs) ds [] h lead (omega arith) (omega (arith, few)) ∙ append-nil (take (length xs + 1) ds) ∙ whole

-- what is written has digits alone, no more than fit, and no leading zero
onto_hex : (k n : ℕ) (acc : List ℕ) → AllByRecursion (λ c. is_hex c ≡ true) acc → AllByRecursion (λ c. is_hex c ≡ true) (digits_onto k 16 false n acc)
onto_hex zero n acc h = h
onto_hex (suc k) n acc h = elim (n / 16 == 0) as (λ b. AllByRecursion (λ c. is_hex c ≡ true) (cond b (digit_glyph false (n % 16) ∷ acc) (digits_onto k 16 false (n / 16) (digit_glyph false (n % 16) ∷ acc)))) [
  | true ↦ (glyph_hex (n % 16) (omega arith), h)
  | false ↦ onto_hex k (n / 16) (digit_glyph false (n % 16) ∷ acc) (glyph_hex (n % 16) (omega arith), h)
]

pub hex_digits : (n : ℕ) → AllByRecursion (λ c. is_hex c ≡ true) (hex n)
unfolding digits
hex_digits n = onto_hex 64 n [] tt

-- the run of digits ends where what was written ends
pub run_hex : (ds rest : List ℕ) (b : ℕ) → AllByRecursion (λ c. is_hex c ≡ true) ds → is_hex b ≡ false → hex_run (ds ++ b ∷ rest) ≡ ds
run_hex [] rest b h e = ap (λ t. cond t (b ∷ hex_run rest) []) e
run_hex (d ∷ ds) rest b h e = ap (λ t. cond t (d ∷ hex_run (ds ++ b ∷ rest)) []) h.0 ∙ ap (λ l. d ∷ l) (run_hex ds rest b h.1 e)
