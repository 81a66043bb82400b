-- A field that is read is the field that was written, and what was written is read again.
use Rattle.std.proofs.Common.{◌≡◌, ℕ, ◌+◌, ◌^◌, ◌<◌, ◌≤◌, Bool, true, false, cond, eqb, ltb, List, ◌++◌, length, take, drop, Option, Some, None, Result, Ok, Err, refl, sym, ap, subst, ◌∙◌, append_assoc, arith}
use Rattle.std.proofs.lemmas.Bool.{ltb-false, le-ltb, eqb-true, eq-eqb}
use Rattle.std.proofs.lemmas.List.{take_at, drop_at, take-append-drop, length-append, length-take}
use Rattle.llog_store.specs.declared.fault.LlogFault.{LlogFault}
use Rattle.llog_store.specs.declared.fault.LlogFault.TheVariants as fault
use Rattle.llog_store.specs.Numbers.{word, worth, zeros, IsBytes, first_set}
use Rattle.llog_store.specs.Reading.{◌>>=◌, at, field_at, number_at, known_at, nothing_set, zeros_at}
use Rattle.llog_store.proofs.Words.{IsBytes-drop, IsBytes-take, length-word, word_back, word_again, worth_below, set_zeros, zeros_set, length-zeros}

-- the value of a step that did not fail
pub bind_ok : {A B : Type 0} (r : Result A LlogFault) (f : A → Result B LlogFault) (y : B) → (r >>= f) ≡ Ok y → (x : A) × (r ≡ Ok x) × (f x ≡ Ok y)
bind_ok (Ok x) f y e = (x, refl, e)
bind_ok (Err d) f y e = absurd cc

-- tests that did not fail
pub guard_not : {A : Type 0} (b : Bool) (d : LlogFault) (x y : A) → cond b (Err d) (Ok x) ≡ Ok y → (b ≡ false) × (x ≡ y)
guard_not true d x y e = absurd cc
guard_not false d x y e = (refl, cc)

pub guard_ok : {A : Type 0} (b : Bool) (d : LlogFault) (x y : A) → cond b (Ok x) (Err d) ≡ Ok y → (b ≡ true) × (x ≡ y)
guard_ok true d x y e = (refl, cc)
guard_ok false d x y e = absurd cc

abbrev pub done : {A : Type 0} → A → Result A LlogFault
done x = Ok x

pub ok_is : {A : Type 0} (x y : A) → done x ≡ done y → x ≡ y
ok_is x y e = cc

-- what a reader took from the front
pub record Takes (bytes text rest : List ℕ) : Type 0 where
  pub parts : bytes ≡ text ++ rest
  pub fits : IsBytes rest

pub Takes-then : (a x b y c : List ℕ) → Takes a x b → Takes b y c → Takes a (x ++ y) c
Takes-then a x b y c p q = record { parts = p.parts ∙ ap (λ (t : List ℕ). x ++ t) q.parts ∙ sym (append_assoc x y c); fits = q.fits }

pub Takes-length : (a x b : List ℕ) → Takes a x b → length a ≡ length x + length b
Takes-length a x b p = ap length p.parts ∙ length-append x b

-- ---- fields

pub field_takes : (len n : ℕ) (bytes text rest : List ℕ) → IsBytes bytes → field_at len n bytes ≡ Ok (text, rest) → Takes bytes text rest × (length text ≡ n) × IsBytes text
unfolding field_at
field_takes len n bytes text rest fits e =
    let g = guard_not (ltb (length bytes) n) (fault.Truncated len) (take n bytes, drop n bytes) (text, rest) e in
    let long : n ≤ length bytes = ltb-false _ _ g.0 in
    let text-is : take n bytes ≡ text = ap (λ (p : List ℕ × List ℕ). p.0) g.1 in
    let rest-is : drop n bytes ≡ rest = ap (λ (p : List ℕ × List ℕ). p.1) g.1 in
    let size : length (take n bytes) ≡ n = omega (arith, length-take n bytes) in
    (record { parts = rw (← text-is, ← rest-is) (sym (take-append-drop n bytes)); fits = rw (← rest-is) (IsBytes-drop n bytes fits) }, ap length (sym text-is) ∙ size, rw (← text-is) (IsBytes-take n bytes fits))

pub field_again : (len n : ℕ) (text rest : List ℕ) → length text ≡ n → field_at len n (text ++ rest) ≡ Ok (text, rest)
unfolding field_at
field_again len n text rest size =
    let long : ltb (length (text ++ rest)) n ≡ false = le-ltb _ _ (omega (arith, length-append text rest)) in
    rw (long, take_at text rest n size, drop_at text rest n size) refl

-- ---- numbers

pub number_takes : (len : ℕ) (bytes : List ℕ) (n : ℕ) (rest : List ℕ) → IsBytes bytes → number_at len bytes ≡ Ok (n, rest) → Takes bytes (word n) rest × (n < 2 ^ 32)
unfolding number_at
number_takes len bytes n rest fits e =
    let a = bind_ok (field_at len 4 bytes) (λ f. Ok (worth f.0, f.1)) (n, rest) e in
    let t = field_takes len 4 bytes a.0.0 a.0.1 fits a.1 in
    let back : word (worth a.0.0) ≡ a.0.0 = word_back a.0.0 t.1 t.2 in
    let made : ℕ × List ℕ = (worth a.0.0, a.0.1) in
    let front : Takes bytes (word (worth a.0.0)) a.0.1 = subst (λ (text : List ℕ). Takes bytes text a.0.1) (sym back) t.0 in
    subst (λ (p : ℕ × List ℕ). Takes bytes (word p.0) p.1 × (p.0 < 2 ^ 32)) (ok_is made (n, rest) a.2) (front, worth_below a.0.0 t.2)

pub number_again : (len n : ℕ) (rest : List ℕ) → n < 2 ^ 32 → number_at len (word n ++ rest) ≡ Ok (n, rest)
unfolding number_at
number_again len n rest lt = rw (field_again len 4 (word n) rest (length-word n), word_again n lt) refl

pub known_takes : (len wanted : ℕ) (other : LlogFault) (bytes rest : List ℕ) → IsBytes bytes → known_at len wanted other bytes ≡ Ok rest → Takes bytes (word wanted) rest
unfolding known_at
known_takes len wanted other bytes rest fits e =
    let a = bind_ok (number_at len bytes) (λ n. cond (eqb n.0 wanted) (Ok n.1) (Err other)) rest e in
    let t = number_takes len bytes a.0.0 a.0.1 fits a.1 in
    let g = guard_ok (eqb a.0.0 wanted) other a.0.1 rest a.2 in
    let n-is : a.0.0 ≡ wanted = eqb-true _ _ g.0 in
    subst (λ (n : ℕ). Takes bytes (word n) rest) n-is (subst (λ (r : List ℕ). Takes bytes (word a.0.0) r) g.1 t.0)

pub known_again : (len wanted : ℕ) (other : LlogFault) (rest : List ℕ) → wanted < 2 ^ 32 → known_at len wanted other (word wanted ++ rest) ≡ Ok rest
unfolding known_at
known_again len wanted other rest lt = rw (number_again len wanted rest lt, eq-eqb wanted wanted refl) refl

-- ---- zeros

nothing_ok : (o : Option ℕ) (place : ℕ) (rest after : List ℕ) → nothing_set o place rest ≡ Ok after → (o ≡ None) × (rest ≡ after)
nothing_ok None place rest after e = (refl, ok_is rest after e)
nothing_ok (Some i) place rest after e = absurd cc

pub zeros_take : (len n : ℕ) (bytes rest : List ℕ) → IsBytes bytes → zeros_at len n bytes ≡ Ok rest → Takes bytes (zeros n) rest
unfolding zeros_at
zeros_take len n bytes rest fits e =
    let a = bind_ok (field_at len n bytes) (λ f. nothing_set (first_set f.0) (at len bytes) f.1) rest e in
    let t = field_takes len n bytes a.0.0 a.0.1 fits a.1 in
    let g = nothing_ok (first_set a.0.0) (at len bytes) a.0.1 rest a.2 in
    let is : a.0.0 ≡ zeros n = zeros_set a.0.0 g.0 ∙ ap zeros t.1 in
    subst (λ (r : List ℕ). Takes bytes (zeros n) r) g.1 (subst (λ (z : List ℕ). Takes bytes z a.0.1) is t.0)

pub zeros_again : (len n : ℕ) (rest : List ℕ) → zeros_at len n (zeros n ++ rest) ≡ Ok rest
unfolding zeros_at
zeros_again len n rest = rw (field_again len n (zeros n) rest (length-zeros n), set_zeros n) refl
