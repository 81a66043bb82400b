-- A text is read as a FID exactly where it is that FID's text.
use Rattle.std.proofs.Common.{◌≡◌, ◌≢◌, ◌<◌, ◌≤◌, ◌^◌, ◌+◌, ◌-◌, ◌*◌, ◌/◌, ◌%◌, ◌==◌, ◌&&◌, ◌||◌, nat_lt, ℕ, zero, suc, Bool, true, false, cond, List, [], ◌∷◌, ◌++◌, length, drop, get_or, codes, Result, Ok, Err, IfOk, inl, inr, refl, sym, ap, ◌∙◌, subst, arith}
use Rattle.std.specs.List.{AllByRecursion}
use Rattle.std.specs.Fmt.{digits, digits_onto, digit_glyph}
use Rattle.std.specs.Str.Parse.{digits_value, AllDigits}
use Rattle.std.proofs.lemmas.Bool.{eq-eqb}
use Rattle.std.proofs.lemmas.Bool.Decides.{eqb_tells, nat_tests}
use Rattle.std.proofs.lemmas.Int.Digits.{digits_value-lt}
use Rattle.std.proofs.Math.Nat.{pow-le-pow_right, pow-suc}
use Rattle.std.proofs.lemmas.Fmt.{digits_is_IsNumeral}
use Rattle.std.proofs.lemmas.List.{drop_at}
use Rattle.fid_space.specs.declared.fid.Fid.{Fid}
use Rattle.fid_space.specs.declared.fid.FidFault.{FidFault}
use Rattle.fid_space.specs.declared.fid.FidFault.TheVariants.{BadShape, BadNumber}
use Rattle.fid_space.specs.FidText.{hex, fid_text, IsFid}
use Rattle.fid_space.specs.FidReading.{◌>>=◌, Sees, is_hex, hex_run, literal_at, number_of, number_at, end_at, fid_at}
use Rattle.fid_space.proofs.Splitting.{apart}
use Rattle.fid_space.proofs.Hex.{hex_all}
use Rattle.fid_space.proofs.HexLaws.{hex_again, hex_digits, run_hex, value_small}

literal_ok : (len : ℕ) (bs rest r : List ℕ) → literal_at len bs rest ≡ Ok r → rest ≡ bs ++ r
literal_ok len [] rest r e = cc
literal_ok len (b ∷ bs) [] r e = cc
literal_ok len (b ∷ bs) (c ∷ rest) r e =
    elim (eqb_tells c b) [
      | inl h ↦ let go : literal_at len bs rest ≡ Ok r = sym (ap (λ t. cond t (literal_at len bs rest) (Err (BadShape (len - length (c ∷ rest))))) h.0) ∙ e in
          ap (λ x. x ∷ rest) h.1 ∙ ap (λ l. b ∷ l) (literal_ok len bs rest r go)
      | inr h ↦ let bad : Err (BadShape (len - length (c ∷ rest))) ≡ Ok r = sym (ap (λ t. cond t (literal_at len bs rest) (Err (BadShape (len - length (c ∷ rest))))) h.0) ∙ e in cc
    ]

literal_takes : (len : ℕ) (bs r : List ℕ) → literal_at len bs (bs ++ r) ≡ Ok r
literal_takes len [] r = refl
literal_takes len (b ∷ bs) r = ap (λ t. cond t (literal_at len bs (bs ++ r)) (Err (BadShape (len - length (b ∷ bs ++ r))))) (eq-eqb b b refl) ∙ literal_takes len bs r

run_front : (xs : List ℕ) → hex_run xs ++ drop (length (hex_run xs)) xs ≡ xs
run_front [] = refl
run_front (x ∷ xs) = elim (is_hex x) as (λ b. cond b (x ∷ hex_run xs) [] ++ drop (length (cond b (x ∷ hex_run xs) [])) (x ∷ xs) ≡ x ∷ xs) [ true ↦ ap (λ l. x ∷ l) (run_front xs) | false ↦ refl ]

all_digits : (ds : List ℕ) → AllByRecursion (λ c. is_hex c ≡ true) ds → AllDigits 16 ds
all_digits [] h = tt
all_digits (d ∷ ds) h = (value_small d h.0, all_digits ds h.1)

guard : {A : Type 0} (b : Bool) (d : FidFault) (x : Result A FidFault) (y : A) → cond b (Err d) x ≡ Ok y → (b ≡ false) × (x ≡ Ok y)
guard true d x y e = cc
guard false d x y e = (refl, e)

inside : {A : Type 0} (x y : A) → ◌≡◌ {A = Result A FidFault} (Ok x) (Ok y) → x ≡ y
inside x y e = cc

not_none : (n : ℕ) → (n == 0) ≡ false → 0 < n
not_none n e = grind (arith, nat_tests)

not_bad : (most len d : ℕ) → (nat_lt most len || (nat_lt 1 len && (d == 48))) ≡ false → (len ≤ most) × (1 < len → d ≢ 48)
not_bad most len d e = (grind (arith, nat_tests), λ (h : 1 < len) (s : d ≡ 48). grind (arith, nat_tests))

number_ok : (len most : ℕ) (rest : List ℕ) (n : ℕ) (r : List ℕ) → most ≤ 16 → number_at len most rest ≡ Ok (n, r) → (rest ≡ hex n ++ r) × (n < 16 ^ most)
unfolding number_at
number_ok len most rest n r few e =
    let ds = hex_run rest in
    let a = guard (length ds == 0) _ _ (n, r) e in
    let b = guard (nat_lt most (length ds) || (nat_lt 1 (length ds) && (get_or ds 0 0 == 48))) _ _ (n, r) a.1 in
    let is : digits_value 16 ds ≡ n = ap (λ (p : ℕ × List ℕ). p.0) (inside (digits_value 16 ds, drop (length ds) rest) (n, r) b.1) in
    let left : drop (length ds) rest ≡ r = ap (λ (p : ℕ × List ℕ). p.1) (inside (digits_value 16 ds, drop (length ds) rest) (n, r) b.1) in
    let some : 0 < length ds = not_none (length ds) a.0 in
    let good = not_bad most (length ds) (get_or ds 0 0) b.0 in
    let again : hex n ≡ ds = ap hex (sym is) ∙ hex_again ds (hex_all rest) good.1 some (omega (arith, good.0)) in
    let small = digits_value-lt 16 ds (all_digits ds (hex_all rest)) in
    let top = pow-le-pow_right {n = 16} (omega arith) good.0 in
    (sym (run_front rest) ∙ ap (λ l. l ++ drop (length ds) rest) (sym again) ∙ ap (λ l. hex n ++ l) left, omega (arith, small, top, is))

bind_ok : {A B : Type 0} (r : Result A FidFault) (f : A → Result B FidFault) (y : B) → (r >>= f) ≡ Ok y → (x : A) × (r ≡ Ok x) × (f x ≡ Ok y)
bind_ok (Ok x) f y e = (x, refl, e)
bind_ok (Err d) f y e = cc

no_more : (len : ℕ) (rest x : List ℕ) → end_at len rest ≡ Ok x → rest ≡ []
unfolding end_at
no_more len [] x e = refl
no_more len (b ∷ rest) x e =
    let some : (length (b ∷ rest) == 0) ≡ false = grind (arith, nat_tests) in
    let bad : Err (BadShape (len - length (b ∷ rest))) ≡ Ok x = sym (ap (λ t. cond t (Ok (b ∷ rest)) (Err (BadShape (len - length (b ∷ rest))))) some) ∙ e in
    cc

-- what is read is spelled so
pub fid_ok : (text : List ℕ) (f : Fid) → fid_at text ≡ Ok f → (text ≡ fid_text f) × IsFid f
unfolding fid_at
fid_ok text f e =
    let n = length text in
    let a = bind_ok (literal_at n (codes "[0x") text) _ f e in
    let s = bind_ok (number_at n 16 a.0) _ f a.2 in
    let b = bind_ok (literal_at n (codes ":0x") s.0.1) _ f s.2 in
    let o = bind_ok (number_at n 8 b.0) _ f b.2 in
    let c = bind_ok (literal_at n (codes ":0x") o.0.1) _ f o.2 in
    let v = bind_ok (number_at n 8 c.0) _ f c.2 in
    let d = bind_ok (literal_at n (codes "]") v.0.1) _ f v.2 in
    let z = bind_ok (end_at n d.0) _ f d.2 in
    let seq = number_ok n 16 a.0 s.0.0 s.0.1 (omega arith) s.1 in
    let oid = number_ok n 8 b.0 o.0.0 o.0.1 (omega arith) o.1 in
    let ver = number_ok n 8 c.0 v.0.0 v.0.1 (omega arith) v.1 in
    let g : Fid = record { seq = s.0.0; oid = o.0.0; ver = v.0.0 } in
    let same : g ≡ f = inside g f z.2 in
    let last : v.0.1 ≡ codes "]" = literal_ok n (codes "]") v.0.1 d.0 d.1 ∙ ap (λ l. codes "]" ++ l) (no_more n d.0 z.0 z.1) in
    let three : c.0 ≡ hex v.0.0 ++ codes "]" = ver.0 ∙ ap (λ l. hex v.0.0 ++ l) last in
    let two : b.0 ≡ hex o.0.0 ++ (codes ":0x" ++ (hex v.0.0 ++ codes "]")) = oid.0 ∙ ap (λ l. hex o.0.0 ++ l) (literal_ok n (codes ":0x") o.0.1 c.0 c.1 ∙ ap (λ l. codes ":0x" ++ l) three) in
    let one : a.0 ≡ hex s.0.0 ++ (codes ":0x" ++ (hex o.0.0 ++ (codes ":0x" ++ (hex v.0.0 ++ codes "]")))) = seq.0 ∙ ap (λ l. hex s.0.0 ++ l) (literal_ok n (codes ":0x") s.0.1 b.0 b.1 ∙ ap (λ l. codes ":0x" ++ l) two) in
    let whole : text ≡ fid_text g = literal_ok n (codes "[0x") text a.0 a.1 ∙ ap (λ l. codes "[0x" ++ l) one in
    (whole ∙ ap fid_text same, subst (λ x. IsFid x) same (omega (arith, seq.1), omega (arith, oid.1), omega (arith, ver.1)))

glyph_above : (d : ℕ) → 0 < d → d < 16 → digit_glyph false d ≢ 48
glyph_above d low high = λ (e : digit_glyph false d ≡ 48). grind (arith, nat_tests)

onto_lead : (k n : ℕ) (acc : List ℕ) → 0 < n → n < 16 ^ k → get_or (digits_onto k 16 false n acc) 0 0 ≢ 48
onto_lead zero n acc low high = absurd (omega (arith, high))
onto_lead (suc k) n acc low high =
    let e : 16 ^ (suc k) ≡ 16 ^ k * 16 = pow-suc 16 k in
    let shown : Bool → List ℕ = λ t. cond t (digit_glyph false (n % 16) ∷ acc) (digits_onto k 16 false (n / 16) (digit_glyph false (n % 16) ∷ acc)) in
    elim (eqb_tells (n / 16) 0) [
      | inl h ↦ let zero_is = h.1 in subst (λ t. get_or (shown t) 0 0 ≢ 48) (sym h.0) (glyph_above (n % 16) (omega (arith, zero_is, low)) (omega arith))
      | inr h ↦ let some = h.1 in subst (λ t. get_or (shown t) 0 0 ≢ 48) (sym h.0) (onto_lead k (n / 16) (digit_glyph false (n % 16) ∷ acc) (omega (arith, some)) (omega (arith, high, e)))
    ]

size_more : (k j n : ℕ) (acc : List ℕ) → n / 16 ≢ 0 → n < 16 ^ j * 16 → (0 < j → length (digits_onto k 16 false (n / 16) (digit_glyph false (n % 16) ∷ acc)) ≤ length (digit_glyph false (n % 16) ∷ acc) + j)
    → length (digits_onto k 16 false (n / 16) (digit_glyph false (n % 16) ∷ acc)) ≤ length acc + suc j
size_more k zero n acc some high h = absurd (omega (arith, some, high))
size_more k (suc j) n acc some high h = let q = h (omega arith) in omega (arith, q)

onto_size : (k j n : ℕ) (acc : List ℕ) → n < 16 ^ j → 0 < j → length (digits_onto k 16 false n acc) ≤ length acc + j
onto_size zero j n acc high low = omega arith
onto_size (suc k) zero n acc high low = absurd (omega arith)
onto_size (suc k) (suc j) n acc high low =
    let e : 16 ^ (suc j) ≡ 16 ^ j * 16 = pow-suc 16 j in
    let shown : Bool → List ℕ = λ t. cond t (digit_glyph false (n % 16) ∷ acc) (digits_onto k 16 false (n / 16) (digit_glyph false (n % 16) ∷ acc)) in
    elim (eqb_tells (n / 16) 0) [
      | inl h ↦ subst (λ t. length (shown t) ≤ length acc + suc j) (sym h.0) (omega arith)
      | inr h ↦ subst (λ t. length (shown t) ≤ length acc + suc j) (sym h.0) (size_more k j n acc h.1 (omega (arith, high, e)) (λ q. onto_size k j (n / 16) (digit_glyph false (n % 16) ∷ acc) (omega (arith, high, e)) q))
    ]

no_and : (a b : Bool) → b ≡ false → (a && b) ≡ false
no_and true b e = e
no_and false b e = refl

no_lead : (n : ℕ) → n < 2 ^ 64 → (nat_lt 1 (length (hex n)) && (get_or (hex n) 0 0 == 48)) ≡ false
unfolding digits
no_lead n low =
    elim (eqb_tells n 0) [
      | inl h ↦ subst (λ m. (nat_lt 1 (length (hex m)) && (get_or (hex m) 0 0 == 48)) ≡ false) (sym h.1) refl
      | inr h ↦ let some = h.1 in no_and (nat_lt 1 (length (hex n))) (get_or (hex n) 0 0 == 48) (apart (get_or (hex n) 0 0) 48 (onto_lead 64 n [] (omega (arith, some)) (omega (arith, low))))
    ]

hex_size : (most n : ℕ) → n < 16 ^ most → 0 < most → length (hex n) ≤ most
unfolding digits
hex_size most n low some = omega (arith, onto_size 64 most n [] low some)

number_takes : (len most n b : ℕ) (r : List ℕ) → n < 16 ^ most → 0 < most → most ≤ 16 → is_hex b ≡ false → number_at len most (hex n ++ b ∷ r) ≡ Ok (n, b ∷ r)
unfolding number_at
number_takes len most n b r low some few stops =
    let x = hex n ++ b ∷ r in
    let top = pow-le-pow_right {n = 16} (omega arith) few in
    let wide : n < 2 ^ 64 = omega (arith, low, top) in
    let value = digits_is_IsNumeral 16 false (omega arith) (omega arith) n (omega (arith, wide)) in
    let full : (length (hex n) == 0) ≡ false = apart (length (hex n)) 0 (λ (e : length (hex n) ≡ 0). let has = value.0.0 in omega (arith, e, has)) in
    let size = hex_size most n low some in
    let fits : nat_lt most (length (hex n)) ≡ false = grind (arith, nat_tests, size) in
    let bad : (nat_lt most (length (hex n)) || (nat_lt 1 (length (hex n)) && (get_or (hex n) 0 0 == 48))) ≡ false = ap (λ t. t || (nat_lt 1 (length (hex n)) && (get_or (hex n) 0 0 == 48))) fits ∙ no_lead n wide in
    let ok : Result (ℕ × List ℕ) FidFault = Ok (digits_value 16 (hex n), drop (length (hex n)) x) in
    let number : Result (ℕ × List ℕ) FidFault = cond (nat_lt most (length (hex n)) || (nat_lt 1 (length (hex n)) && (get_or (hex n) 0 0 == 48))) (Err (BadNumber (len - length x))) ok in
    ap (λ ds. number_of len most ds x) (run_hex (hex n) r b (hex_digits n) stops)
    ∙ ap (λ t. cond t (Err (BadShape (len - length x))) number) full
    ∙ ap (λ t. cond t (Err (BadNumber (len - length x))) ok) bad
    ∙ ap (λ m. Ok (m, drop (length (hex n)) x)) value.1
    ∙ ap (λ l. Ok (n, l)) (drop_at (hex n) (b ∷ r) (length (hex n)) refl)

bind_at : {A B : Type 0} (r : Result A FidFault) (f : A → Result B FidFault) (x : A) → r ≡ Ok x → (r >>= f) ≡ f x
bind_at r f x e = ap (λ t. t >>= f) e

-- what is spelled so is read
pub fid_takes : (f : Fid) → IsFid f → fid_at (fid_text f) ≡ Ok f
unfolding fid_at end_at
fid_takes f h =
    let n = length (fid_text f) in
    let t6 = hex f.ver ++ codes "]" in
    let t5 = codes ":0x" ++ t6 in
    let t4 = hex f.oid ++ t5 in
    let t3 = codes ":0x" ++ t4 in
    let t2 = hex f.seq ++ t3 in
    let k7 : ℕ → ℕ → ℕ → List ℕ → Result Fid FidFault = λ a b c d. end_at n d >>= (λ _. Ok (record { seq = a; oid = b; ver = c })) in
    let k6 : ℕ → ℕ → (ℕ × List ℕ) → Result Fid FidFault = λ a b v. literal_at n (codes "]") v.1 >>= k7 a b v.0 in
    let k5 : ℕ → ℕ → List ℕ → Result Fid FidFault = λ a b c. number_at n 8 c >>= k6 a b in
    let k4 : ℕ → (ℕ × List ℕ) → Result Fid FidFault = λ a o. literal_at n (codes ":0x") o.1 >>= k5 a o.0 in
    let k3 : ℕ → List ℕ → Result Fid FidFault = λ a b. number_at n 8 b >>= k4 a in
    let k2 : (ℕ × List ℕ) → Result Fid FidFault = λ s. literal_at n (codes ":0x") s.1 >>= k3 s.0 in
    let k1 : List ℕ → Result Fid FidFault = λ a. number_at n 16 a >>= k2 in
    bind_at (literal_at n (codes "[0x") (fid_text f)) k1 t2 (literal_takes n (codes "[0x") t2)
    ∙ bind_at (number_at n 16 t2) k2 (f.seq, t3) (number_takes n 16 f.seq 58 (codes "0x" ++ t4) (omega (arith, h.0)) (omega arith) (omega arith) refl)
    ∙ bind_at (literal_at n (codes ":0x") t3) (k3 f.seq) t4 (literal_takes n (codes ":0x") t4)
    ∙ bind_at (number_at n 8 t4) (k4 f.seq) (f.oid, t5) (number_takes n 8 f.oid 58 (codes "0x" ++ t6) (omega (arith, h.1)) (omega arith) (omega arith) refl)
    ∙ bind_at (literal_at n (codes ":0x") t5) (k5 f.seq f.oid) t6 (literal_takes n (codes ":0x") t6)
    ∙ bind_at (number_at n 8 t6) (k6 f.seq f.oid) (f.ver, codes "]") (number_takes n 8 f.ver 93 [] (omega (arith, h.2)) (omega arith) (omega arith) refl)
    ∙ bind_at (literal_at n (codes "]") (codes "]")) (k7 f.seq f.oid f.ver) [] (literal_takes n (codes "]") [])

pub found_of : (r : Result Fid FidFault) (text : List ℕ) → Sees (λ f. f) r (fid_at text) → IfOk r (λ f. IsFid f × (text ≡ fid_text f))
found_of (Ok f) text h = let both = fid_ok text f h in (both.1, both.0)
found_of (Err d) text h = tt

pub only_of : (r : Result Fid FidFault) (text : List ℕ) (f : Fid) → Sees (λ g. g) r (fid_at text) → IsFid f → text ≡ fid_text f → r ≡ Ok f
only_of (Ok g) text f h fits e = sym h ∙ ap fid_at e ∙ fid_takes f fits
only_of (Err d) text f h fits e = let bad : Err d ≡ Ok f = sym h ∙ ap fid_at e ∙ fid_takes f fits in cc
