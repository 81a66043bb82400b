-- Bytes are read as a layout exactly where they spell one, and no two layouts share a spelling.
use Rattle.std.proofs.Common.{◌≡◌, ◌<◌, ◌≤◌, ◌==◌, ◌&&◌, ◌||◌, not, nat_lt, ℕ, suc, Bool, true, false, cond, List, [], ◌∷◌, length, get_or, drop, Option, Some, None, Result, Ok, Err, IfOk, refl, sym, ap, ◌∙◌, subst, arith}
use Rattle.std.specs.Int.{w32, to_le_bytes, from_le_bytes}
use Rattle.std.proofs.lemmas.Bool.Decides.{nat_tests}
use Rattle.std.proofs.lemmas.Nat.{le_bytes_4, from_le_bytes-to_le_bytes_4}
use Rattle.tree_model.specs.Keys.{Layout}
use Rattle.striped_dir.specs.declared.layout.Layout.{Layout as Kept}
use Rattle.striped_dir.specs.declared.layout.BadValue.{BadValue}
use Rattle.striped_dir.specs.Layouts.{laid, FitsLayout, layout_text, bad_place, unless_bad, layout_in}

past : (b : Bool) (n : ℕ) (x : Option ℕ) → cond b (Some n) x ≡ None → (b ≡ false) × (x ≡ None)
past true n x e = cc
past false n x e = (refl, e)

free : (b : Bool) (n : ℕ) (x : Option ℕ) → b ≡ false → x ≡ None → cond b (Some n) x ≡ None
free true n x e f = cc
free false n x e f = f

record Good (count start third fourth generation : ℕ) : Type 0 where
  few : count ≤ 16
  near : start ≤ 15
  plain : count ≡ 0 → start ≡ 0
  one : third ≡ 0
  two : fourth ≡ 0
  low : generation ≤ 0x0ffffffe

odd_start : ℕ → ℕ → Bool
odd_start count start = nat_lt 15 start || ((count == 0) && not (start == 0))

start_near : (count start : ℕ) → odd_start count start ≡ false → start ≤ 15
unfolding odd_start
start_near count start e = grind (arith, nat_tests)

start_plain : (count start : ℕ) → odd_start count start ≡ false → count ≡ 0 → start ≡ 0
unfolding odd_start
start_plain count start e h = grind (arith, nat_tests)

start_fits : (count start : ℕ) → start ≤ 15 → (count ≡ 0 → start ≡ 0) → odd_start count start ≡ false
unfolding odd_start
start_fits count start a h = grind (arith, nat_tests)

is_zero : (n : ℕ) → not (n == 0) ≡ false → n ≡ 0
is_zero n e = grind (arith, nat_tests)

at_most : (m n : ℕ) → nat_lt m n ≡ false → n ≤ m
at_most m n e = grind (arith, nat_tests)

not_above : (m n : ℕ) → n ≤ m → nat_lt m n ≡ false
not_above m n h = grind (arith, nat_tests)

good : (count start third fourth generation : ℕ) → bad_place count start third fourth generation ≡ None → Good count start third fourth generation
unfolding odd_start
good count start third fourth generation e =
    let a = past (nat_lt 16 count) 0 _ e in
    let b = past (odd_start count start) 1 _ a.1 in
    let c = past (not (third == 0)) 2 _ b.1 in
    let d = past (not (fourth == 0)) 3 _ c.1 in
    let g = past (nat_lt 0x0ffffffe generation) 4 None d.1 in
    record {
      few = at_most 16 count a.0;
      near = start_near count start b.0;
      plain = start_plain count start b.0;
      one = is_zero third c.0;
      two = is_zero fourth d.0;
      low = at_most 0x0ffffffe generation g.0;
    }

no_bad : (l : Layout) → FitsLayout l → bad_place l.count l.start 0 0 l.generation ≡ None
unfolding odd_start
no_bad l fits =
    free (nat_lt 16 l.count) 0 _ (not_above 16 l.count fits.count)
    (free (odd_start l.count l.start) 1 _ (start_fits l.count l.start fits.start fits.plain) (free (nat_lt 0x0ffffffe l.generation) 4 None (not_above 0x0ffffffe l.generation fits.generation) refl))

read_good : (b : Option ℕ) (k l : Kept) → unless_bad b k ≡ Ok l → (b ≡ None) × (k ≡ l)
read_good None k l e = (refl, cc)
read_good (Some place) k l e = cc

spelled : (a b c d : ℕ) (rest : List ℕ) → length rest ≡ 4 → ((i : ℕ) → get_or rest i 0 < 256) → Good a b c d (from_le_bytes w32 rest) → a ∷ b ∷ c ∷ d ∷ rest ≡ a ∷ b ∷ 0 ∷ 0 ∷ to_le_bytes w32 (from_le_bytes w32 rest)
spelled a b c d rest h small g = ap (λ n. a ∷ b ∷ n ∷ d ∷ rest) g.one ∙ ap (λ n. a ∷ b ∷ 0 ∷ n ∷ rest) g.two ∙ ap (λ bs. a ∷ b ∷ 0 ∷ 0 ∷ bs) (sym (le_bytes_4 rest (from_le_bytes w32 rest) h small refl))

found_ok : (bytes : List ℕ) (l : Kept) → length bytes ≡ 8 → ((i : ℕ) → get_or bytes i 0 < 256) → Ok l ≡ layout_in bytes → FitsLayout (laid l) × (bytes ≡ layout_text (laid l))
unfolding layout_in
found_ok [] l h small e = absurd (omega (arith, h))
found_ok (a ∷ []) l h small e = absurd (omega (arith, h))
found_ok (a ∷ b ∷ []) l h small e = absurd (omega (arith, h))
found_ok (a ∷ b ∷ c ∷ []) l h small e = absurd (omega (arith, h))
found_ok (a ∷ b ∷ c ∷ d ∷ rest) l h small e =
    let n = from_le_bytes w32 rest in
    let k : Kept = record { count = a; start = b; generation = n } in
    let both = read_good (bad_place a b c d n) k l (sym e) in
    let g = good a b c d n both.0 in
    let four : length rest ≡ 4 = omega (arith, h) in
    subst (λ x. FitsLayout (laid x) × (a ∷ b ∷ c ∷ d ∷ rest ≡ layout_text (laid x))) both.1
    (record { count = g.few; start = g.near; plain = g.plain; generation = g.low }, spelled a b c d rest four (λ i. small (suc (suc (suc (suc i))))) g)

pub found_of : (bytes : List ℕ) (r : Result Kept BadValue) → length bytes ≡ 8 → ((i : ℕ) → get_or bytes i 0 < 256) → r ≡ layout_in bytes → IfOk r (λ l. FitsLayout (laid l) × (bytes ≡ layout_text (laid l)))
found_of bytes (Ok l) h small e = found_ok bytes l h small e
found_of bytes (Err d) h small e = tt

back : (l : Layout) → FitsLayout l → from_le_bytes w32 (to_le_bytes w32 l.generation) ≡ l.generation
back l fits = from_le_bytes-to_le_bytes_4 l.generation (omega (arith, fits.generation))

read_text : (l : Kept) → FitsLayout (laid l) → layout_in (layout_text (laid l)) ≡ Ok l
unfolding layout_in
read_text l fits =
    ap (λ n. unless_bad (bad_place l.count l.start 0 0 n) (record { count = l.count; start = l.start; generation = n })) (back (laid l) fits)
    ∙ ap (λ b. unless_bad b l) (no_bad (laid l) fits)

pub only_of : (bytes : List ℕ) (r : Result Kept BadValue) → r ≡ layout_in bytes → (l : Kept) → FitsLayout (laid l) → bytes ≡ layout_text (laid l) → r ≡ Ok l
only_of bytes r e l fits is = e ∙ ap layout_in is ∙ read_text l fits

pub one_layout : (l m : Layout) → FitsLayout l → FitsLayout m → layout_text l ≡ layout_text m → l ≡ m
one_layout l m fits also e =
    let count : l.count ≡ m.count = ap (λ bs. get_or bs 0 0) e in
    let start : l.start ≡ m.start = ap (λ bs. get_or bs 1 0) e in
    let bytes : to_le_bytes w32 l.generation ≡ to_le_bytes w32 m.generation = ap (λ bs. drop 4 bs) e in
    let generation : l.generation ≡ m.generation = sym (back l fits) ∙ ap (λ bs. from_le_bytes w32 bs) bytes ∙ back m also in
    λ i. record { count = count i; start = start i; generation = generation i }
