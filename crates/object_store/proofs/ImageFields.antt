-- A field of an image that is read is the field that was written, and what was written is read again.
use Rattle.std.proofs.Common.{◌≡◌, ℕ, ◌*◌, ◌^◌, ◌<◌, ◌≤◌, Bool, true, false, cond, ltb, leb, ◌&&◌, List, ◌++◌, length, take, drop, Option, Some, None, Result, Ok, Err, refl, sym, ap, subst, ◌∙◌, append_assoc, arith, length-append}
use Rattle.std.specs.Int.{Width, byte_len}
use Rattle.std.proofs.lemmas.Bool.{ltb-false, le-ltb, leb-true, le-leb}
use Rattle.std.proofs.lemmas.List.{take_at, drop_at, take-append-drop, length-take}
use Rattle.byte_grammar.specs.Numbers.{IsBytes, word, worth, zeros, first_set, padding}
use Rattle.byte_grammar.proofs.Bytes.{IsWide, IsBytes-drop, IsBytes-take, set_zeros, zeros_set, length-zeros}
use Rattle.object_store.specs.declared.fault.ImageFault.{ImageFault}
use Rattle.object_store.specs.declared.fault.ImageFault.TheVariants as fault
use Rattle.object_store.specs.ImageText.{padded_text}
use Rattle.object_store.specs.ImageReading.{◌>>=◌, at, field_at, number_at, unless_bad, zeros_at, padded_at}

-- the value of a step that did not fail
pub bind_ok : {A B : Type 0} (r : Result A ImageFault) (f : A → Result B ImageFault) (y : B) → (r >>= f) ≡ Ok y → (x : A) × (r ≡ Ok x) × (f x ≡ Ok y)
bind_ok (Ok x) f y e = (x, refl, e)
bind_ok (Err d) f y e = absurd cc

guard_not : {A : Type 0} (b : Bool) (d : ImageFault) (x y : A) → cond b (Err d) (Ok x) ≡ Ok y → (b ≡ false) × (x ≡ y)
guard_not true d x y e = absurd cc
guard_not false d x y e = (refl, cc)

pub guard_ok : {A : Type 0} (b : Bool) (d : ImageFault) (x y : A) → cond b (Ok x) (Err d) ≡ Ok y → (b ≡ true) × (x ≡ y)
guard_ok true d x y e = (refl, cc)
guard_ok false d x y e = absurd cc

abbrev done : {A : Type 0} → A → Result A ImageFault
done x = Ok x

pub ok_is : {A : Type 0} (x y : A) → done x ≡ done y → x ≡ y
ok_is x y e = cc

-- what a reader took from the front
pub record Takes (bytes text rest : List ℕ) : Type 0 where
  pub parts : bytes ≡ text ++ rest
  pub fits : IsBytes rest

pub Takes-then : {a x b y c : List ℕ} → Takes a x b → Takes b y c → Takes a (x ++ y) c
Takes-then {a} {x} {b} {y} {c} p q = record { parts = p.parts ∙ ap (λ (t : List ℕ). x ++ t) q.parts ∙ sym (append_assoc x y c); fits = q.fits }

-- ---- fields

pub field_takes : (len n : ℕ) (bytes text rest : List ℕ) → IsBytes bytes → field_at len n bytes ≡ Ok (text, rest) → Takes bytes text rest × (length text ≡ n) × IsBytes text
unfolding field_at
field_takes len n bytes text rest fits e =
    let g = guard_not (ltb (length bytes) n) (fault.BadImage len) (take n bytes, drop n bytes) (text, rest) e in
    let long : n ≤ length bytes = ltb-false _ _ g.0 in
    let text-is : take n bytes ≡ text = ap (λ (p : List ℕ × List ℕ). p.0) g.1 in
    let rest-is : drop n bytes ≡ rest = ap (λ (p : List ℕ × List ℕ). p.1) g.1 in
    let size : length (take n bytes) ≡ n = omega (arith, length-take n bytes) in
    (record { parts = rw (← text-is, ← rest-is) (sym (take-append-drop n bytes)); fits = rw (← rest-is) (IsBytes-drop n bytes fits) }, ap length (sym text-is) ∙ size, rw (← text-is) (IsBytes-take n bytes fits))

pub field_again : (len n : ℕ) (text rest : List ℕ) → length text ≡ n → field_at len n (text ++ rest) ≡ Ok (text, rest)
unfolding field_at
field_again len n text rest size =
    let long : ltb (length (text ++ rest)) n ≡ false = le-ltb _ _ (omega (arith, length-append text rest)) in
    rw (long, take_at text rest n size, drop_at text rest n size) refl

-- ---- numbers

both_true : (a b : Bool) → (a && b) ≡ true → (a ≡ true) × (b ≡ true)
both_true true b e = (refl, e)
both_true false b e = absurd cc

pub record IsNumber (w : Width) (low high n : ℕ) : Type 0 where
  pub at_least : low ≤ n
  pub at_most : n ≤ high

pub number_is : (w : Width) (low high len : ℕ) (bytes : List ℕ) (n : ℕ) (rest : List ℕ) → number_at w low high len bytes ≡ Ok (n, rest) → IsNumber w low high n
unfolding number_at
number_is w low high len bytes n rest e =
    let a = bind_ok (field_at len (byte_len w) bytes) _ _ e in
    let g = guard_ok (leb low (worth w a.0.0) && leb (worth w a.0.0) high) (fault.BadImage (at len bytes)) (worth w a.0.0, a.0.1) (n, rest) a.2 in
    let t = both_true (leb low (worth w a.0.0)) (leb (worth w a.0.0) high) g.0 in
    subst (λ (p : ℕ × List ℕ). IsNumber w low high p.0) g.1 (record { at_least = leb-true _ _ t.0; at_most = leb-true _ _ t.1 })

pub number_takes : (w : Width) (wide : IsWide w) (low high len : ℕ) (bytes : List ℕ) (n : ℕ) (rest : List ℕ) → IsBytes bytes → number_at w low high len bytes ≡ Ok (n, rest) → Takes bytes (word w n) rest × (n < 2 ^ (8 * byte_len w))
unfolding number_at
number_takes w wide low high len bytes n rest fits e =
    let a = bind_ok {A = List ℕ × List ℕ} _ _ _ e in
    let g = guard_ok (leb low (worth w a.0.0) && leb (worth w a.0.0) high) (fault.BadImage (at len bytes)) (worth w a.0.0, a.0.1) (n, rest) a.2 in
    let t = field_takes len (byte_len w) bytes a.0.0 a.0.1 fits a.1 in
    let front : Takes bytes (word w (worth w a.0.0)) a.0.1 = subst (λ (text : List ℕ). Takes bytes text a.0.1) (sym (wide.back a.0.0 t.1 t.2)) t.0 in
    subst (λ (p : ℕ × List ℕ). Takes bytes (word w p.0) p.1 × (p.0 < 2 ^ (8 * byte_len w))) g.1 (front, wide.below a.0.0 t.2)

pub number_again : (w : Width) (wide : IsWide w) (low high len n : ℕ) (rest : List ℕ) → low ≤ n → n ≤ high → n < 2 ^ (8 * byte_len w) → number_at w low high len (word w n ++ rest) ≡ Ok (n, rest)
unfolding number_at
number_again w wide low high len n rest l h fits =
    rw (field_again len (byte_len w) (word w n) rest (wide.len n), wide.again n fits, le-leb low n l, le-leb n high h) refl

-- ---- bytes that may be bad

pub unless_ok : (o : Option ℕ) (place : ℕ) (rest after : List ℕ) → unless_bad o place rest ≡ Ok after → (o ≡ None) × (rest ≡ after)
unless_ok None place rest after e = (refl, ok_is rest after e)
unless_ok (Some i) place rest after e = absurd cc

pub zeros_take : (len n : ℕ) (bytes rest : List ℕ) → IsBytes bytes → zeros_at len n bytes ≡ Ok rest → Takes bytes (zeros n) rest
unfolding zeros_at
zeros_take len n bytes rest fits e =
    let a = bind_ok {A = List ℕ × List ℕ} _ _ _ e in
    let t = field_takes len n bytes a.0.0 a.0.1 fits a.1 in
    let g = unless_ok (first_set a.0.0) (at len bytes) a.0.1 rest a.2 in
    let is : a.0.0 ≡ zeros n = zeros_set a.0.0 g.0 ∙ ap zeros t.1 in
    subst (λ (r : List ℕ). Takes bytes (zeros n) r) g.1 (subst (λ (z : List ℕ). Takes bytes z a.0.1) is t.0)

pub zeros_again : (len n : ℕ) (rest : List ℕ) → zeros_at len n (zeros n ++ rest) ≡ Ok rest
unfolding zeros_at
zeros_again len n rest = rw (field_again len n (zeros n) rest (length-zeros n), set_zeros n) refl

pub padded_take : (len n : ℕ) (bytes text rest : List ℕ) → IsBytes bytes → padded_at len n bytes ≡ Ok (text, rest) → Takes bytes (padded_text text) rest × (length text ≡ n) × IsBytes text
unfolding padded_at padded_text
padded_take len n bytes text rest fits e =
    let a = bind_ok {A = List ℕ × List ℕ} _ _ _ e in
    let b = bind_ok {A = List ℕ} _ _ _ a.2 in
    let t = field_takes len n bytes a.0.0 a.0.1 fits a.1 in
    let z = zeros_take len (padding n) a.0.1 b.0 t.0.fits b.1 in
    let both : Takes bytes (a.0.0 ++ zeros (padding (length a.0.0))) b.0 = subst (λ (k : ℕ). Takes bytes (a.0.0 ++ zeros (padding k)) b.0) (sym t.1) (Takes-then t.0 z) in
    subst (λ (p : List ℕ × List ℕ). Takes bytes (p.0 ++ zeros (padding (length p.0))) p.1 × (length p.0 ≡ n) × IsBytes p.0) (ok_is (a.0.0, b.0) (text, rest) b.2) (both, t.1, t.2)

pub padded_again : (len n : ℕ) (text rest : List ℕ) → length text ≡ n → padded_at len n (padded_text text ++ rest) ≡ Ok (text, rest)
unfolding padded_at padded_text
padded_again len n text rest size =
    rw (append_assoc text (zeros (padding (length text))) rest, field_again len n text (zeros (padding (length text)) ++ rest) size, size, zeros_again len (padding n) rest) refl
