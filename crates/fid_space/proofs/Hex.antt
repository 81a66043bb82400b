-- Digits that are read, and literals.
use Rattle.std.proofs.Common.{◌≡◌, ◌<◌, ◌≤◌, ◌^◌, ◌+◌, ◌*◌, ℕ, zero, suc, true, false, cond, ◌++◌, append_assoc, append-nil, List, [], ◌∷◌, length, take, drop, get_or, Err, refl, sym, ap, ◌∙◌, arith, add-one}
use Rattle.std.specs.List.{AllByRecursion}
use Rattle.std.proofs.Math.Nat.{pow-le-pow_right, pow-suc}
use Rattle.std.proofs.lemmas.List.{take_more}
use Rattle.std.proofs.Math.Seq.{drop-cons}
use Rattle.fid_space.specs.FidReading.{is_hex, hex_run, literal_at}
use Rattle.fid_space.specs.declared.fid.FidFault.TheVariants.{BadShape}

-- the text ends where a byte of the literal should stand
literal_none : (len i : ℕ) (bytes rest : List ℕ) → i < length bytes → length rest < 1 → literal_at len (drop i bytes) rest ≡ Err (BadShape len)
literal_none len i [] rest h short = absurd (omega arith)
literal_none len zero (b ∷ bytes) [] h short = refl
literal_none len zero (b ∷ bytes) (c ∷ rest) h short = absurd (omega arith)
literal_none len (suc i) (b ∷ bytes) rest h short = literal_none len i bytes rest (omega (arith, h)) short

pub literal_end : (len i : ℕ) (bytes rest all : List ℕ) → i < length bytes → length rest < 1 → literal_at len (drop i bytes) rest ≡ literal_at len bytes all → literal_at len bytes all ≡ Err (BadShape len)
literal_end len i bytes rest all h short e = sym e ∙ literal_none len i bytes rest h short

pub hex_all : (xs : List ℕ) → AllByRecursion (λ c. is_hex c ≡ true) (hex_run xs)
hex_all [] = tt
hex_all (x ∷ xs) = elim (is_hex x) as (λ b. is_hex x ≡ b → AllByRecursion (λ c. is_hex c ≡ true) (cond b (x ∷ hex_run xs) [])) [
  | true ↦ λ e. (e, hex_all xs)
  | false ↦ λ e. tt
] refl

-- one digit more of a run
pub run_step : (xs : List ℕ) (i : ℕ) → i < length xs → is_hex (get_or xs i 0) ≡ true → take i xs ++ hex_run (drop i xs) ≡ take (i + 1) xs ++ hex_run (drop (i + 1) xs)
run_step xs i h e =
    let first : hex_run (drop i xs) ≡ get_or xs i 0 ∷ hex_run (drop (i + 1) xs) =
    ap hex_run (drop-cons xs i 0 h) ∙ ap (λ b. cond b (get_or xs i 0 ∷ hex_run (drop (suc i) xs)) []) e ∙ ap (λ k. get_or xs i 0 ∷ hex_run (drop k xs)) (sym (add-one i)) in
    ap (λ l. take i xs ++ l) first ∙ sym (append_assoc (take i xs) (get_or xs i 0 ∷ []) (hex_run (drop (i + 1) xs))) ∙ ap (λ l. l ++ hex_run (drop (i + 1) xs)) (sym (take_more xs i 0 h))

-- the run ends where no digit stands
pub run_ends : (xs : List ℕ) (i : ℕ) → i < length xs → is_hex (get_or xs i 0) ≡ false → hex_run xs ≡ take i xs ++ hex_run (drop i xs) → take i xs ≡ hex_run xs
run_ends xs i h e run =
    let none : hex_run (drop i xs) ≡ [] = ap hex_run (drop-cons xs i 0 h) ∙ ap (λ b. cond b (get_or xs i 0 ∷ hex_run (drop (suc i) xs)) []) e in
    sym (append-nil (take i xs)) ∙ ap (λ l. take i xs ++ l) (sym none) ∙ sym run

pub at_hex : (ds : List ℕ) (i : ℕ) → AllByRecursion (λ c. is_hex c ≡ true) ds → i < length ds → is_hex (get_or ds i 0) ≡ true
at_hex [] i h low = absurd (omega arith)
at_hex (d ∷ ds) zero h low = h.0
at_hex (d ∷ ds) (suc i) h low = at_hex ds i h.1 (omega (arith, low))

pub pow_more : (i : ℕ) → 16 ^ (i + 1) ≡ 16 ^ i * 16
pow_more i = ap (λ k. 16 ^ k) (add-one i) ∙ pow-suc 16 i

pub step_fits : (v d i n : ℕ) → v < 16 ^ i → d < 16 → i < n → n ≤ 16 → (v * 16 + d < 16 ^ (i + 1)) × (v * 16 + d < 2 ^ 64)
step_fits v d i n low small turn few =
    let e = pow_more i in
    let top : 16 ^ (i + 1) ≤ 16 ^ 16 = (let le : i + 1 ≤ 16 = omega arith in pow-le-pow_right {n = 16} (omega arith) le) in
    (omega (arith, e), omega (arith, e, top))
