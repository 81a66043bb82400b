-- The parts of a record: what was written is read again, and what is read was written so.
use Rattle.std.proofs.Common.{◌≡◌, ℕ, ◌-◌, ◌^◌, ◌<◌, ◌≤◌, Bool, true, false, cond, eqb, leb, ltb, not, ◌&&◌, ◌||◌, List, ◌++◌, length, Result, Ok, Err, refl, sym, ap, subst, arith, inl, inr}
use Rattle.std.proofs.lemmas.Bool.{eqb-true, eq-eqb, leb-true, le-leb, le-ltb}
use Rattle.std.proofs.lemmas.Bool.Decides.{eqb_tells}
use Rattle.llog_store.specs.declared.fault.LlogFault.{LlogFault}
use Rattle.llog_store.specs.declared.fault.LlogFault.TheVariants as fault
use Rattle.llog_store.specs.Numbers.{word, zeros, pad8, IsBytes}
use Rattle.llog_store.specs.Log.{room, fits_in, record_size}
use Rattle.llog_store.specs.Reading.{◌>>=◌, at, field_at, number_at, known_at, zeros_at, size_stands, is_pad_size, pad_stands, size_at, kind_at, tail_at, payload_size_at, Piece, Update, Pad, update_at, pad_at}
use Rattle.llog_store.proofs.Words.{pad8_near, pad8_even}
use Rattle.llog_store.proofs.Fields.{bind_ok, guard_ok, ok_is, Takes, Takes-then, field_takes, field_again, number_takes, number_again, known_takes, known_again, zeros_take, zeros_again}

pub both : (a b : Bool) → (a && b) ≡ true → (a ≡ true) × (b ≡ true)
both true b e = (refl, e)
both false b e = absurd cc

pub both_true : (a b : Bool) → a ≡ true → b ≡ true → (a && b) ≡ true
both_true a b p q = rw (p, q) refl

not_true : (a : Bool) → not a ≡ true → a ≡ false
not_true true e = absurd cc
not_true false e = refl

-- ---- the tail

pub tail_takes : (len size index : ℕ) (bytes rest : List ℕ) → IsBytes bytes → tail_at len size index bytes ≡ Ok rest → Takes bytes (word size ++ word index) rest
unfolding tail_at
tail_takes len size index bytes rest fits e =
    let a = bind_ok (known_at len size (fault.BadTail (at len bytes)) bytes) (λ a. known_at len index (fault.BadTail (at len a)) a) rest e in
    let t0 = known_takes len size (fault.BadTail (at len bytes)) bytes a.0 fits a.1 in
    Takes-then bytes (word size) a.0 (word index) rest t0 (known_takes len index (fault.BadTail (at len a.0)) a.0 rest t0.fits a.2)

pub tail_again : (len size index : ℕ) (rest : List ℕ) → size < 2 ^ 32 → index < 2 ^ 32 → tail_at len size index (word size ++ (word index ++ rest)) ≡ Ok rest
unfolding tail_at
tail_again len size index rest s i = rw (known_again len size _ (word index ++ rest) s) (known_again len index _ rest i)

-- ---- the length of a record, its type, and the length of a payload

-- what update records have as a length
pub pad_size_none : (n : ℕ) → n ≤ 24576 → is_pad_size (record_size n) ≡ false
pad_size_none n small =
    let other : eqb (record_size n) 24 ≡ false = elim (eqb_tells (record_size n) 24) [ inl h ↦ absurd (let same = h.1 in omega arith) | inr h ↦ h.0 ] in
    let low : ltb 24608 (record_size n) ≡ false = le-ltb 24608 (record_size n) (omega (arith, small, pad8_near n, pad8_even n)) in
    rw (other, low) refl

or_true : (b : Bool) → (b || true) ≡ true
or_true true = refl
or_true false = refl

-- the length of an update record stands, and so does that of a pad where one may stand
pub update_size_stands : (n : ℕ) (may : Bool) → n ≤ 24576 → (not (is_pad_size (record_size n)) || may) ≡ true
update_size_stands n may small = rw (pad_size_none n small) refl

pub pad_size_stands : (size : ℕ) (may : Bool) → may ≡ true → (not (is_pad_size size) || may) ≡ true
pad_size_stands size may h = rw h (or_true (not (is_pad_size size)))

pub record TakesSize (len lost : ℕ) (bytes : List ℕ) (n : ℕ) (rest : List ℕ) : Type 0 where
  pub taken : Takes bytes (word n) rest
  pub small : n < 2 ^ 32
  pub stands : size_stands (room (at len bytes)) n ≡ true
  pub behind : fits_in lost n ≡ false

pub size_takes : (len lost more : ℕ) (bytes : List ℕ) (n : ℕ) (rest : List ℕ) → IsBytes bytes → size_at len lost more bytes ≡ Ok (n, rest) → TakesSize len lost bytes n rest
unfolding size_at
size_takes len lost more bytes n rest fits e =
    let a = bind_ok (number_at len bytes) (λ m. cond (size_stands (room (at len bytes)) m.0 && not (fits_in lost m.0) && (not (is_pad_size m.0) || pad_stands (room (at len bytes)) m.0 lost more)) (Ok m) (Err (fault.BadLength (at len bytes)))) (n, rest) e in
    let g = guard_ok (size_stands (room (at len bytes)) a.0.0 && not (fits_in lost a.0.0) && (not (is_pad_size a.0.0) || pad_stands (room (at len bytes)) a.0.0 lost more)) (fault.BadLength (at len bytes)) a.0 (n, rest) a.2 in
    let t = number_takes len bytes a.0.0 a.0.1 fits a.1 in
    let b0 = both (size_stands (room (at len bytes)) a.0.0 && not (fits_in lost a.0.0)) (not (is_pad_size a.0.0) || pad_stands (room (at len bytes)) a.0.0 lost more) g.0 in
    let b = both (size_stands (room (at len bytes)) a.0.0) (not (fits_in lost a.0.0)) b0.0 in
    let made : TakesSize len lost bytes a.0.0 a.0.1 = record { taken = t.0; small = t.1; stands = b.0; behind = not_true (fits_in lost a.0.0) b.1 } in
    subst (λ (p : ℕ × List ℕ). TakesSize len lost bytes p.0 p.1) g.1 made

pub size_again : (len lost more n : ℕ) (rest : List ℕ) → n < 2 ^ 32 → size_stands (room (at len (word n ++ rest))) n ≡ true → fits_in lost n ≡ false → (not (is_pad_size n) || pad_stands (room (at len (word n ++ rest))) n lost more) ≡ true → size_at len lost more (word n ++ rest) ≡ Ok (n, rest)
unfolding size_at
size_again len lost more n rest small stands behind may = rw (number_again len n rest small, stands, behind, may) refl

kind_cases : (place : ℕ) (is_update is_other pad_may : Bool) (n : ℕ) (bytes after : List ℕ) (is_pad : Bool) (rest : List ℕ) → (is_update ≡ true → n ≡ 0x106a0000) → (is_other ≡ true → n ≡ 0x10600000) → Takes bytes (word n) after
    → cond {A = Result (Bool × List ℕ) LlogFault} is_update (Ok (false, after)) (cond {A = Result (Bool × List ℕ) LlogFault} (is_other && pad_may) (Ok (true, after)) (Err (fault.BadType place))) ≡ Ok (is_pad, rest) → Takes bytes (word (cond is_pad 0x10600000 0x106a0000)) rest × (is_pad ≡ true → pad_may ≡ true)
kind_cases place true is_other pad_may n bytes after is_pad rest u o t e =
    let made : Bool × List ℕ = (false, after) in
    let taken : Takes bytes (word 0x106a0000) after = subst (λ (m : ℕ). Takes bytes (word m) after) (u refl) t in
    subst (λ (p : Bool × List ℕ). Takes bytes (word (cond p.0 0x10600000 0x106a0000)) p.1 × (p.0 ≡ true → pad_may ≡ true)) (ok_is made (is_pad, rest) e) (taken, λ (h : false ≡ true). absurd cc)
kind_cases place false true true n bytes after is_pad rest u o t e =
    let made : Bool × List ℕ = (true, after) in
    let taken : Takes bytes (word 0x10600000) after = subst (λ (m : ℕ). Takes bytes (word m) after) (o refl) t in
    subst (λ (p : Bool × List ℕ). Takes bytes (word (cond p.0 0x10600000 0x106a0000)) p.1 × (p.0 ≡ true → true ≡ true)) (ok_is made (is_pad, rest) e) (taken, λ _. refl)
kind_cases place false true false n bytes after is_pad rest u o t e = absurd cc
kind_cases place false false pad_may n bytes after is_pad rest u o t e = absurd cc

pub kind_takes : (len : ℕ) (update_may pad_may : Bool) (bytes : List ℕ) (is_pad : Bool) (rest : List ℕ) → IsBytes bytes → kind_at len update_may pad_may bytes ≡ Ok (is_pad, rest) → Takes bytes (word (cond is_pad 0x10600000 0x106a0000)) rest × (is_pad ≡ true → pad_may ≡ true)
unfolding kind_at
kind_takes len update_may pad_may bytes is_pad rest fits e =
    let a = bind_ok (number_at len bytes) (λ n. cond {A = Result (Bool × List ℕ) LlogFault} (eqb n.0 0x106a0000 && update_may) (Ok (false, n.1)) (cond {A = Result (Bool × List ℕ) LlogFault} (eqb n.0 0x10600000 && pad_may) (Ok (true, n.1)) (Err (fault.BadType (at len bytes))))) (is_pad, rest) e in
    let t = number_takes len bytes a.0.0 a.0.1 fits a.1 in
    kind_cases (at len bytes) (eqb a.0.0 0x106a0000 && update_may) (eqb a.0.0 0x10600000) pad_may a.0.0 bytes a.0.1 is_pad rest (λ h. eqb-true a.0.0 0x106a0000 (both (eqb a.0.0 0x106a0000) update_may h).0) (eqb-true a.0.0 0x10600000) t.0 a.2

pub update_kind_again : (len : ℕ) (update_may pad_may : Bool) (rest : List ℕ) → update_may ≡ true → kind_at len update_may pad_may (word 0x106a0000 ++ rest) ≡ Ok (false, rest)
unfolding kind_at
update_kind_again len update_may pad_may rest may = rw (number_again len 0x106a0000 rest (omega arith), may) refl

pub pad_kind_again : (len : ℕ) (update_may : Bool) (rest : List ℕ) → kind_at len update_may true (word 0x10600000 ++ rest) ≡ Ok (true, rest)
unfolding kind_at
pad_kind_again len update_may rest = rw (number_again len 0x10600000 rest (omega arith)) refl

pub payload_size_takes : (len size : ℕ) (bytes : List ℕ) (n : ℕ) (rest : List ℕ) → IsBytes bytes → payload_size_at len size bytes ≡ Ok (n, rest) → Takes bytes (word n) rest × (n ≤ 24576) × (size ≡ record_size n)
unfolding payload_size_at
payload_size_takes len size bytes n rest fits e =
    let a = bind_ok (number_at len bytes) (λ m. cond (leb m.0 24576 && eqb size (record_size m.0)) (Ok m) (Err (fault.BadLength (at len bytes)))) (n, rest) e in
    let g = guard_ok (leb a.0.0 24576 && eqb size (record_size a.0.0)) (fault.BadLength (at len bytes)) a.0 (n, rest) a.2 in
    let t = number_takes len bytes a.0.0 a.0.1 fits a.1 in
    let b = both (leb a.0.0 24576) (eqb size (record_size a.0.0)) g.0 in
    subst (λ (p : ℕ × List ℕ). Takes bytes (word p.0) p.1 × (p.0 ≤ 24576) × (size ≡ record_size p.0)) g.1 (t.0, leb-true _ _ b.0, eqb-true _ _ b.1)

pub payload_size_again : (len n : ℕ) (rest : List ℕ) → n ≤ 24576 → payload_size_at len (record_size n) (word n ++ rest) ≡ Ok (n, rest)
unfolding payload_size_at
payload_size_again len n rest small = rw (number_again len n rest (omega arith), le-leb n 24576 small, eq-eqb (record_size n) (record_size n) refl) refl

-- ---- behind the type

pub record TakesUpdate (size index : ℕ) (bytes payload rest : List ℕ) : Type 0 where
  pub taken : Takes bytes (zeros 4 ++ (word (length payload) ++ (zeros 4 ++ (payload ++ (zeros (pad8 (length payload) - length payload) ++ (word size ++ word index)))))) rest
  pub small : length payload ≤ 24576
  pub size_is : size ≡ record_size (length payload)

sized_update : (size index : ℕ) (bytes payload rest : List ℕ) (n : ℕ) → length payload ≡ n → Takes bytes (zeros 4 ++ (word n ++ (zeros 4 ++ (payload ++ (zeros (pad8 n - n) ++ (word size ++ word index)))))) rest → n ≤ 24576 → size ≡ record_size n → TakesUpdate size index bytes payload rest
sized_update size index bytes payload rest n is taken small size_is =
    record {
      taken = subst (λ (m : ℕ). Takes bytes (zeros 4 ++ (word m ++ (zeros 4 ++ (payload ++ (zeros (pad8 m - m) ++ (word size ++ word index)))))) rest) (sym is) taken;
      small = subst (λ (m : ℕ). m ≤ 24576) (sym is) small;
      size_is = subst (λ (m : ℕ). size ≡ record_size m) (sym is) size_is;
    }

pub update_takes : (len size index : ℕ) (bytes : List ℕ) (p : Piece) (rest : List ℕ) → IsBytes bytes → update_at len size index bytes ≡ Ok (p, rest) → (payload : List ℕ) × (p ≡ Update payload) × TakesUpdate size index bytes payload rest
unfolding update_at
update_takes len size index bytes p rest fits e =
    let a = bind_ok (zeros_at len 4 bytes) (λ a. payload_size_at len size a >>= λ n. zeros_at len 4 n.1 >>= λ b. field_at len n.0 b >>= λ payload. zeros_at len (pad8 n.0 - n.0) payload.1 >>= λ c. tail_at len size index c >>= λ d. Ok (Update payload.0, d)) (p, rest) e in
    let n = bind_ok (payload_size_at len size a.0) (λ n. zeros_at len 4 n.1 >>= λ b. field_at len n.0 b >>= λ payload. zeros_at len (pad8 n.0 - n.0) payload.1 >>= λ c. tail_at len size index c >>= λ d. Ok (Update payload.0, d)) (p, rest) a.2 in
    let b = bind_ok (zeros_at len 4 n.0.1) (λ b. field_at len n.0.0 b >>= λ payload. zeros_at len (pad8 n.0.0 - n.0.0) payload.1 >>= λ c. tail_at len size index c >>= λ d. Ok (Update payload.0, d)) (p, rest) n.2 in
    let f = bind_ok (field_at len n.0.0 b.0) (λ payload. zeros_at len (pad8 n.0.0 - n.0.0) payload.1 >>= λ c. tail_at len size index c >>= λ d. Ok (Update payload.0, d)) (p, rest) b.2 in
    let c = bind_ok (zeros_at len (pad8 n.0.0 - n.0.0) f.0.1) (λ c. tail_at len size index c >>= λ d. Ok (Update f.0.0, d)) (p, rest) f.2 in
    let d = bind_ok (tail_at len size index c.0) (λ d. Ok (Update f.0.0, d)) (p, rest) c.2 in
    let ta = zeros_take len 4 bytes a.0 fits a.1 in
    let tn = payload_size_takes len size a.0 n.0.0 n.0.1 ta.fits n.1 in
    let tb = zeros_take len 4 n.0.1 b.0 tn.0.fits b.1 in
    let tf = field_takes len n.0.0 b.0 f.0.0 f.0.1 tb.fits f.1 in
    let tc = zeros_take len (pad8 n.0.0 - n.0.0) f.0.1 c.0 tf.0.fits c.1 in
    let td = tail_takes len size index c.0 d.0 tc.fits d.1 in
    let e5 = Takes-then f.0.1 (zeros (pad8 n.0.0 - n.0.0)) c.0 (word size ++ word index) d.0 tc td in
    let e4 = Takes-then b.0 f.0.0 f.0.1 (zeros (pad8 n.0.0 - n.0.0) ++ (word size ++ word index)) d.0 tf.0 e5 in
    let e3 = Takes-then n.0.1 (zeros 4) b.0 (f.0.0 ++ (zeros (pad8 n.0.0 - n.0.0) ++ (word size ++ word index))) d.0 tb e4 in
    let e2 = Takes-then a.0 (word n.0.0) n.0.1 (zeros 4 ++ (f.0.0 ++ (zeros (pad8 n.0.0 - n.0.0) ++ (word size ++ word index)))) d.0 tn.0 e3 in
    let e1 = Takes-then bytes (zeros 4) a.0 (word n.0.0 ++ (zeros 4 ++ (f.0.0 ++ (zeros (pad8 n.0.0 - n.0.0) ++ (word size ++ word index))))) d.0 ta e2 in
    let made : Piece × List ℕ = (Update f.0.0, d.0) in
    let same = ok_is made (p, rest) d.2 in
    let whole : TakesUpdate size index bytes f.0.0 d.0 = sized_update size index bytes f.0.0 d.0 n.0.0 tf.1 e1 tn.1 tn.2 in
    (f.0.0, sym (ap (λ (q : Piece × List ℕ). q.0) same), subst (λ (q : Piece × List ℕ). TakesUpdate size index bytes f.0.0 q.1) same whole)

pub update_again : (len index : ℕ) (payload rest : List ℕ) → length payload ≤ 24576 → record_size (length payload) < 2 ^ 32 → index < 2 ^ 32
    → update_at len (record_size (length payload)) index (zeros 4 ++ (word (length payload) ++ (zeros 4 ++ (payload ++ (zeros (pad8 (length payload) - length payload) ++ (word (record_size (length payload)) ++ (word index ++ rest))))))) ≡ Ok (Update payload, rest)
unfolding update_at
update_again len index payload rest small s i =
    let p = length payload in
    let r5 = word (record_size p) ++ (word index ++ rest) in
    let r4 = zeros (pad8 p - p) ++ r5 in
    let r3 = payload ++ r4 in
    let r2 = zeros 4 ++ r3 in
    let r1 = word p ++ r2 in
    rw (zeros_again len 4 r1, payload_size_again len p r2 small, zeros_again len 4 r3, field_again len p payload r4 refl, zeros_again len (pad8 p - p) r5, tail_again len (record_size p) index rest s i) refl

pub pad_takes : (len size index : ℕ) (bytes : List ℕ) (p : Piece) (rest : List ℕ) → IsBytes bytes → pad_at len size index bytes ≡ Ok (p, rest) → (p ≡ Pad size) × Takes bytes (zeros 4 ++ (zeros (size - 24) ++ (word size ++ word index))) rest
unfolding pad_at
pad_takes len size index bytes p rest fits e =
    let a = bind_ok (zeros_at len 4 bytes) (λ a. zeros_at len (size - 24) a >>= λ b. tail_at len size index b >>= λ c. Ok (Pad size, c)) (p, rest) e in
    let b = bind_ok (zeros_at len (size - 24) a.0) (λ b. tail_at len size index b >>= λ c. Ok (Pad size, c)) (p, rest) a.2 in
    let c = bind_ok (tail_at len size index b.0) (λ c. Ok (Pad size, c)) (p, rest) b.2 in
    let ta = zeros_take len 4 bytes a.0 fits a.1 in
    let tb = zeros_take len (size - 24) a.0 b.0 ta.fits b.1 in
    let tc = tail_takes len size index b.0 c.0 tb.fits c.1 in
    let e2 = Takes-then a.0 (zeros (size - 24)) b.0 (word size ++ word index) c.0 tb tc in
    let e1 = Takes-then bytes (zeros 4) a.0 (zeros (size - 24) ++ (word size ++ word index)) c.0 ta e2 in
    let made : Piece × List ℕ = (Pad size, c.0) in
    let same = ok_is made (p, rest) c.2 in
    (sym (ap (λ (q : Piece × List ℕ). q.0) same), subst (λ (q : Piece × List ℕ). Takes bytes (zeros 4 ++ (zeros (size - 24) ++ (word size ++ word index))) q.1) same e1)

pub pad_again : (len size index : ℕ) (rest : List ℕ) → size < 2 ^ 32 → index < 2 ^ 32 → pad_at len size index (zeros 4 ++ (zeros (size - 24) ++ (word size ++ (word index ++ rest)))) ≡ Ok (Pad size, rest)
unfolding pad_at
pad_again len size index rest s i =
    let r2 = word size ++ (word index ++ rest) in
    let r1 = zeros (size - 24) ++ r2 in
    rw (zeros_again len 4 r1, zeros_again len (size - 24) r2, tail_again len size index rest s i) refl
