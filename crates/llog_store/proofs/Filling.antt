-- Bytes in chunks.
use Rattle.std.proofs.Common.{◌≡◌, ◌⊎◌, ℕ, zero, suc, ◌+◌, ◌-◌, ◌*◌, ◌/◌, ◌%◌, ◌^◌, ◌<◌, ◌≤◌, Bool, true, false, cond, eqb, List, [], ◌∷◌, ◌++◌, length, get_or, set, take, drop, refl, sym, ap, subst, ◌∙◌, append_assoc, arith, inl, inr, bit_or, bit_and}
use Rattle.std.specs.Int.{bit_not, w8}
use Rattle.std.proofs.lemmas.Bool.{cases_lt}
use Rattle.std.proofs.lemmas.List.{length-append, length-take, length-drop, length-set, append-nil, take_at, drop_at, take_all, drop_all, drop-drop, drop-take, take-take, take-append-le, drop-append-le, get_or-take, get_or_append_left, set-append_left, take-append-drop, nil_from_length}
use Rattle.llog_store.specs.Numbers.{word, zeros}
use Rattle.llog_store.specs.Log.{record_text, pad_text}
use Rattle.llog_store.proofs.Words.{length-word, length-zeros}
use Rattle.llog_store.specs.Chunked.{chunk_count, chunk_at, joined_to}
use Rattle.llog_store.specs.Kept.{with_numbers, with_bit, without_bit, wiped, behind_pad, joined, Fills}

pub length-joined : (len : ℕ) (cs : List (List ℕ)) → Fills len cs → length (joined cs) ≡ len
unfolding joined Fills
length-joined len [] f = sym f
length-joined len (c ∷ cs) f =
    let rest = length-joined (len - 32768) cs f.1 in
    omega (arith, length-append c (joined cs), rest, f.0)

none_joined : (cs : List (List ℕ)) → Fills 0 cs → joined cs ≡ []
none_joined cs f = nil_from_length (joined cs) (length-joined 0 cs f)

-- behind a chunk that isn't full nothing stands
rest_none : (len : ℕ) (cs : List (List ℕ)) → Fills (len - 32768) cs → len ≤ 32768 → joined cs ≡ []
rest_none len cs f le = none_joined cs (subst (λ (n : ℕ). Fills n cs) (let z : len - 32768 ≡ 0 = omega arith in z) f)

first_is : (len : ℕ) (c : List ℕ) (cs : List (List ℕ)) → length c ≡ len - (len - 32768) → Fills (len - 32768) cs → take 32768 (c ++ joined cs) ≡ c
first_is len c cs long f =
    elim (cases_lt len 32768) [
      | inl lt ↦ ap (λ (r : List ℕ). take 32768 (c ++ r)) (rest_none len cs f (omega arith)) ∙ ap (λ (x : List ℕ). take 32768 x) (append-nil c) ∙ take_all 32768 c (omega (arith, long))
      | inr le ↦ take_at c (joined cs) 32768 (omega (arith, long))
    ]

later_is : (len i : ℕ) (c : List ℕ) (cs : List (List ℕ)) → length c ≡ len - (len - 32768) → Fills (len - 32768) cs → drop (32768 * suc i) (c ++ joined cs) ≡ drop (32768 * i) (joined cs)
later_is len i c cs long f =
    elim (cases_lt len 32768) [
      | inl lt ↦
          let none = rest_none len cs f (omega arith) in
          let all : length (c ++ []) ≤ 32768 * suc i = omega (arith, long, length-append c []) in
          rw none (drop_all (32768 * suc i) (c ++ []) all ∙ sym (drop_all (32768 * i) [] (omega arith)))
      | inr le ↦
          let full : length c ≡ 32768 = omega (arith, long) in
          let split : 32768 * suc i ≡ 32768 + 32768 * i = omega arith in
          rw split (sym (drop-drop (32768 * i) 32768 (c ++ joined cs)) ∙ ap (λ (x : List ℕ). drop (32768 * i) x) (drop_at c (joined cs) 32768 full))
    ]

-- a chunk is that part of the bytes
pub chunk_is : (len : ℕ) (cs : List (List ℕ)) (i : ℕ) → Fills len cs → i < length cs → get_or cs i [] ≡ chunk_at (joined cs) i
unfolding joined Fills
chunk_is len [] i f lt = absurd (omega arith)
chunk_is len (c ∷ cs) zero f lt = sym (first_is len c cs f.0 f.1)
chunk_is len (c ∷ cs) (suc i) f lt =
    chunk_is (len - 32768) cs i f.1 (omega arith) ∙ sym (ap (λ (x : List ℕ). take 32768 x) (later_is len i c cs f.0 f.1))

-- where the chunks reach
pub reaches : (len : ℕ) (cs : List (List ℕ)) → Fills len cs → len ≤ 32768 * length cs
unfolding Fills
reaches len [] f = omega (arith, f)
reaches len (c ∷ cs) f = let rest = reaches (len - 32768) cs f.1 in omega (arith, rest)

-- ---- more at the end

abbrev pub more_at : ℕ → List (List ℕ) → List ℕ → List (List ℕ)
more_at k cs x = set cs k (get_or cs k [] ++ x)

filled : (k len : ℕ) (cs : List (List ℕ)) (x : List ℕ) → k ≡ len / 32768 → Fills len cs → k < length cs → len % 32768 + length x ≤ 32768 → (joined (more_at k cs x) ≡ joined cs ++ x) × Fills (len + length x) (more_at k cs x)
unfolding joined Fills
filled k len [] x is f lt fit = absurd (omega arith)
filled zero len (c ∷ cs) x is f lt fit =
    let none = rest_none len cs f.1 (omega (arith, is)) in
    let long : length (c ++ x) ≡ len + length x - (len + length x - 32768) = omega (arith, is, fit, f.0, length-append c x) in
    let left : len - 32768 ≡ len + length x - 32768 = omega (arith, is, fit) in
    (rw none (append-nil (c ++ x) ∙ ap (λ (y : List ℕ). y ++ x) (sym (append-nil c))), (long, subst (λ (n : ℕ). Fills n cs) left f.1))
filled (suc k) len (c ∷ cs) x is f lt fit =
    let here : k ≡ (len - 32768) / 32768 = omega (arith, is) in
    let room : (len - 32768) % 32768 + length x ≤ 32768 = omega (arith, is, fit) in
    let rest = filled k (len - 32768) cs x here f.1 (omega arith) room in
    let long : length c ≡ len + length x - (len + length x - 32768) = omega (arith, is, f.0) in
    let left : len - 32768 + length x ≡ len + length x - 32768 = omega (arith, is) in
    (ap (λ (y : List ℕ). c ++ y) rest.0 ∙ sym (append_assoc c (joined cs) x), (long, subst (λ (n : ℕ). Fills n (more_at k cs x)) left rest.1))

pub filled_text : (len : ℕ) (cs : List (List ℕ)) (x : List ℕ) → Fills len cs → len / 32768 < length cs → len % 32768 + length x ≤ 32768 → joined (more_at (len / 32768) cs x) ≡ joined cs ++ x
filled_text len cs x f lt fit = (filled (len / 32768) len cs x refl f lt fit).0

pub filled_fills : (len : ℕ) (cs : List (List ℕ)) (x : List ℕ) → Fills len cs → len / 32768 < length cs → len % 32768 + length x ≤ 32768 → Fills (len + length x) (more_at (len / 32768) cs x)
filled_fills len cs x f lt fit = (filled (len / 32768) len cs x refl f lt fit).1

take_add : (a b : ℕ) (xs : List ℕ) → take (a + b) xs ≡ take a xs ++ take b (drop a xs)
take_add a b xs =
    let le : a ≤ a + b = omega arith in
    sym (take-append-drop a (take (a + b) xs)) ∙ rw (take-take a (a + b) xs le, drop-take a b xs) refl

-- the same, where a chunk that was read is written again
pub written_text : (len : ℕ) (cs : List (List ℕ)) (x v w : List ℕ) → Fills len cs → len / 32768 < length cs → len % 32768 + length x ≤ 32768 → get_or cs (len / 32768) [] ≡ v → w ≡ v ++ x → joined (set cs (len / 32768) w) ≡ joined cs ++ x
written_text len cs x v w f lt fit is w-is =
    ap (λ (y : List ℕ). joined (set cs (len / 32768) y)) (w-is ∙ ap (λ (y : List ℕ). y ++ x) (sym is)) ∙ filled_text len cs x f lt fit

pub written_fills : (len n : ℕ) (cs : List (List ℕ)) (x v w : List ℕ) → Fills len cs → len / 32768 < length cs → len % 32768 + length x ≤ 32768 → get_or cs (len / 32768) [] ≡ v → w ≡ v ++ x → length x ≡ n → Fills (len + n) (set cs (len / 32768) w)
written_fills len n cs x v w f lt fit is w-is long =
    let same : get_or cs (len / 32768) [] ++ x ≡ w = ap (λ (y : List ℕ). y ++ x) is ∙ sym w-is in
    subst (λ (y : List ℕ). Fills (len + n) (set cs (len / 32768) y)) same (subst (λ (m : ℕ). Fills (len + m) (more_at (len / 32768) cs x)) long (filled_fills len cs x f lt fit))

-- bytes that are copied on
pub copied : (len end : ℕ) (bytes before : List ℕ) → before ≡ take len bytes → len ≤ end → before ++ take (end - len) (drop len bytes) ≡ take end bytes
copied len end bytes before is le =
    let there : len + (end - len) ≡ end = omega arith in
    ap (λ (x : List ℕ). x ++ take (end - len) (drop len bytes)) is ∙ sym (take_add len (end - len) bytes) ∙ ap (λ (n : ℕ). take n bytes) there

-- how long the bytes are that are seen
pub kept_long : (len : ℕ) (cs : List (List ℕ)) (bytes : List ℕ) → Fills len cs → joined cs ≡ bytes → length bytes ≡ len
kept_long len cs bytes f is = ap length (sym is) ∙ length-joined len cs f

-- how long the last chunk is
last_long : (k len : ℕ) (cs : List (List ℕ)) → k ≡ len / 32768 → Fills len cs → k < length cs → length (get_or cs k []) ≡ len % 32768
unfolding Fills
last_long k len [] is f lt = absurd (omega arith)
last_long zero len (c ∷ cs) is f lt = omega (arith, is, f.0)
last_long (suc k) len (c ∷ cs) is f lt = last_long k (len - 32768) cs (omega (arith, is)) f.1 (omega arith) ∙ (let e : (len - 32768) % 32768 ≡ len % 32768 = omega (arith, is) in e)

pub length-last : (len : ℕ) (cs : List (List ℕ)) → Fills len cs → len / 32768 < length cs → length (get_or cs (len / 32768) []) ≡ len % 32768
length-last len cs f lt = last_long (len / 32768) len cs refl f lt

-- one chunk more, which waits
pub pushed_text : (cs : List (List ℕ)) → joined (cs ++ [] ∷ []) ≡ joined cs
unfolding joined
pushed_text [] = refl
pushed_text (c ∷ cs) = ap (λ (y : List ℕ). c ++ y) (pushed_text cs)

pub pushed_fills : (len : ℕ) (cs : List (List ℕ)) → Fills len cs → Fills len (cs ++ [] ∷ [])
unfolding Fills
pushed_fills len [] f = (omega (arith, f), omega (arith, f))
pushed_fills len (c ∷ cs) f = (f.0, pushed_fills (len - 32768) cs f.1)

-- ---- parts

-- bytes that stand in one chunk, so many behind a place of it
pub part_is : (bytes : List ℕ) (at skip n : ℕ) → at % 32768 + skip + n ≤ 32768 → take n (drop (at % 32768 + skip) (chunk_at bytes (at / 32768))) ≡ take n (drop (at + skip) bytes)
part_is bytes at skip n fit =
    let r = at % 32768 + skip in
    let from = drop (32768 * (at / 32768)) bytes in
    let rest : r + (32768 - r) ≡ 32768 = omega (arith, fit) in
    let cut : drop r (take 32768 from) ≡ take (32768 - r) (drop r from) = ap (λ (m : ℕ). drop r (take m from)) (sym rest) ∙ drop-take r (32768 - r) from in
    let there : 32768 * (at / 32768) + r ≡ at + skip = omega arith in
    ap (λ (x : List ℕ). take n x) cut ∙ take-take n (32768 - r) (drop r from) (omega (arith, fit)) ∙ ap (λ (x : List ℕ). take n x) (drop-drop r (32768 * (at / 32768)) bytes) ∙ ap (λ (m : ℕ). take n (drop m bytes)) there

pub part_long : (bytes : List ℕ) (at skip n : ℕ) → at + skip + n < length bytes → at % 32768 + skip + n ≤ 32768 → at % 32768 + skip + n ≤ length (chunk_at bytes (at / 32768))
part_long bytes at skip n within inside =
    let rest = drop (32768 * (at / 32768)) bytes in
    omega (arith, within, inside, length-take 32768 rest, length-drop (32768 * (at / 32768)) bytes)

joined_front : (bytes : List ℕ) (n : ℕ) → joined_to bytes n ≡ take (32768 * n) bytes
unfolding joined_to
joined_front bytes zero = refl
joined_front bytes (suc n) =
    let front = take (32768 * n) bytes in
    let rest = drop (32768 * n) bytes in
    let split : 32768 * suc n ≡ 32768 * n + 32768 = omega arith in
    ap (λ (x : List ℕ). x ++ take 32768 rest) (joined_front bytes n) ∙ sym (ap (λ (m : ℕ). take m bytes) split ∙ take_add (32768 * n) 32768 bytes)

pub joined_all : (bytes : List ℕ) (n : ℕ) → n ≡ chunk_count bytes → joined_to bytes n ≡ bytes
joined_all bytes n is = joined_front bytes n ∙ take_all (32768 * n) bytes (omega (arith, is))

-- a pad that isn't empty
pub some_lost : (len lost : ℕ) → (lost ≡ 0) ⊎ ((24 ≤ lost) × (len % 32768 + lost ≡ 32768)) → (lost ≡ 0 → ⊥) → (24 ≤ lost) × (len % 32768 + lost ≡ 32768)
some_lost len lost (inl none) some = absurd (some none)
some_lost len lost (inr pad) some = pad

-- ---- the header

pub one_chunk : (c : List ℕ) → length c ≡ 32768 → (joined (c ∷ []) ≡ c) × Fills 32768 (c ∷ [])
unfolding joined Fills
one_chunk c long = (append-nil c, (long, refl))

-- what a change of the header does
abbrev pub ChangesHeader : (List ℕ → List ℕ) → Type 0
ChangesHeader F = (c rest : List ℕ) → 32768 ≤ length c → (F (c ++ rest) ≡ F c ++ rest) × (length (F c) ≡ length c)

numbers_header : (next live : ℕ) → ChangesHeader (λ c. with_numbers c next live)
numbers_header next live c rest long =
    let front = take-append-le 16 c rest (omega (arith, long)) in
    let back = drop-append-le 24 c rest (omega (arith, long)) in
    let size = length-append (take 16 c) (word next ++ (word live ++ drop 24 c)) in
    let size2 = length-append (word next) (word live ++ drop 24 c) in
    let size3 = length-append (word live) (drop 24 c) in
    (rw (front, back) (simp append_assoc), omega (arith, long, size, size2, size3, length-take 16 c, length-drop 24 c, length-word next, length-word live))

wiped_header : ChangesHeader wiped
wiped_header c rest long =
    let front = take-append-le 24 c rest (omega (arith, long)) in
    let back = drop-append-le 32024 c rest (omega (arith, long)) in
    let size = length-append (take 24 c) (zeros 32000 ++ drop 32024 c) in
    let size2 = length-append (zeros 32000) (drop 32024 c) in
    (rw (front, back) (simp append_assoc), omega (arith, long, size, size2, length-take 24 c, length-drop 32024 c, length-zeros 32000))

byte_header : (at : ℕ) (change : ℕ → ℕ) → at < 32768 → ChangesHeader (λ c. set c at (change (get_or c at 0)))
byte_header at change lt c rest long =
    let inside : at < length c = omega (arith, long) in
    (ap (λ (b : ℕ). set (c ++ rest) at (change b)) (get_or_append_left c rest 0 at inside) ∙ set-append_left c rest at (change (get_or c at 0)) inside, length-set c at (change (get_or c at 0)))

both_change : (F G : List ℕ → List ℕ) → ChangesHeader F → ChangesHeader G → ChangesHeader (λ c. G (F c))
both_change F G f g c rest long =
    let a = f c rest long in
    let wide : 32768 ≤ length (F c) = omega (arith, long, a.1) in
    let b = g (F c) rest wide in
    (ap G a.0 ∙ b.0, b.1 ∙ a.1)

header_set : (F : List ℕ → List ℕ) → ChangesHeader F → (len : ℕ) (cs : List (List ℕ)) → Fills len cs → 32768 ≤ len → (joined (set cs 0 (F (get_or cs 0 []))) ≡ F (joined cs)) × Fills len (set cs 0 (F (get_or cs 0 [])))
unfolding joined Fills
header_set F change len [] f long = absurd (omega (arith, f))
header_set F change len (c ∷ cs) f long =
    let wide : 32768 ≤ length c = omega (arith, f.0, long) in
    let h = change c (joined cs) wide in
    (sym h.0, (h.1 ∙ f.0, f.1))

bit_low : (index : ℕ) → index < 256000 → 24 + index / 8 < 32768
bit_low index low = omega arith

pub live_header : (next live index : ℕ) → index < 256000 → ChangesHeader (λ c. with_bit (with_numbers c next live) index)
live_header next live index low = both_change (λ c. with_numbers c next live) (λ c. with_bit c index) (numbers_header next live) (byte_header (24 + index / 8) (λ b. bit_or b (1 * 2 ^ (index % 8) % 256)) (bit_low index low))

pub cancelled_header : (next live index : ℕ) → index < 256000 → ChangesHeader (λ c. without_bit (with_numbers c next live) index)
cancelled_header next live index low = both_change (λ c. with_numbers c next live) (λ c. without_bit c index) (numbers_header next live) (byte_header (24 + index / 8) (λ b. bit_and b (bit_not w8 (1 * 2 ^ (index % 8) % 256))) (bit_low index low))

empty_header : ChangesHeader (λ c. with_numbers (wiped c) 1 0)
empty_header = both_change wiped (λ c. with_numbers c 1 0) wiped_header (numbers_header 1 0)

pub live_set : (next live index len : ℕ) (cs : List (List ℕ)) → index < 256000 → Fills len cs → 32768 ≤ len → (joined (set cs 0 (with_bit (with_numbers (get_or cs 0 []) next live) index)) ≡ with_bit (with_numbers (joined cs) next live) index) × Fills len (set cs 0 (with_bit (with_numbers (get_or cs 0 []) next live) index))
live_set next live index len cs low f long = header_set (λ c. with_bit (with_numbers c next live) index) (live_header next live index low) len cs f long

pub cancelled_set : (next live index len : ℕ) (cs : List (List ℕ)) → index < 256000 → Fills len cs → 32768 ≤ len → (joined (set cs 0 (without_bit (with_numbers (get_or cs 0 []) next live) index)) ≡ without_bit (with_numbers (joined cs) next live) index) × Fills len (set cs 0 (without_bit (with_numbers (get_or cs 0 []) next live) index))
cancelled_set next live index len cs low f long = header_set (λ c. without_bit (with_numbers c next live) index) (cancelled_header next live index low) len cs f long

-- the first chunk of bytes that have one
pub header_is : (len : ℕ) (cs : List (List ℕ)) → Fills len cs → 32768 ≤ len → (get_or cs 0 [] ≡ take 32768 (joined cs)) × (length (get_or cs 0 []) ≡ 32768) × (1 ≤ length cs)
unfolding Fills
header_is len [] f long = absurd (omega (arith, f))
header_is len (c ∷ cs) f long = (chunk_is len (c ∷ cs) 0 f (omega arith), omega (arith, f.0, long), omega arith)

all_empty : (cs : List (List ℕ)) → ((i : ℕ) → get_or cs i [] ≡ []) → (joined cs ≡ []) × Fills 0 cs
unfolding joined Fills
all_empty [] h = (refl, refl)
all_empty (c ∷ cs) h =
    let rest = all_empty cs (λ i. h (suc i)) in
    let none : c ≡ [] = h 0 in
    (rw (none, rest.0) refl, (ap length none, rest.1))

emptied : (cs : List (List ℕ)) → ((i : ℕ) → 1 ≤ i → get_or cs i [] ≡ []) → length (get_or cs 0 []) ≡ 32768 → 1 ≤ length cs → (joined cs ≡ get_or cs 0 []) × Fills 32768 cs
unfolding joined Fills
emptied [] h long some = absurd (omega arith)
emptied (c ∷ cs) h long some =
    let rest = all_empty cs (λ i. h (suc i) (omega arith)) in
    (rw rest.0 (append-nil c), (long, rest.1))

-- all chunks but the header cleared, and the header made that of an empty log
pub emptied_set : (len : ℕ) (old cs : List (List ℕ)) → Fills len old → 32768 ≤ len → get_or cs 0 [] ≡ get_or old 0 [] → length cs ≡ length old → ((i : ℕ) → 1 ≤ i → get_or cs i [] ≡ [])
    → (joined (set cs 0 (with_numbers (wiped (get_or cs 0 [])) 1 0)) ≡ with_numbers (wiped (take 32768 (joined old))) 1 0) × Fills 32768 (set cs 0 (with_numbers (wiped (get_or cs 0 [])) 1 0))
emptied_set len old cs f long first count empty =
    let h = header_is len old f long in
    let e = emptied cs empty (ap length first ∙ h.1) (omega (arith, count, h.2)) in
    let s = header_set (λ c. with_numbers (wiped c) 1 0) empty_header 32768 cs e.1 (omega arith) in
    (s.0 ∙ ap (λ (x : List ℕ). with_numbers (wiped x) 1 0) (e.0 ∙ first ∙ h.0), s.1)

-- a bit in the header
pub bit_in_header : (bytes : List ℕ) (i : ℕ) → i < 256000 → get_or (take 32768 bytes) (24 + i / 8) 0 ≡ get_or bytes (24 + i / 8) 0
bit_in_header bytes i low = get_or-take 32768 bytes (24 + i / 8) 0 (bit_low i low)

-- ---- an entry

parts_cases : (b : Bool) (front behind : List ℕ) → cond b behind (front ++ behind) ≡ cond b [] front ++ behind
parts_cases true front behind = refl
parts_cases false front behind = refl

pub behind_parts : (lost index : ℕ) (payload : List ℕ) → behind_pad lost index payload ≡ cond (eqb lost 0) [] (pad_text lost (index - 1)) ++ record_text index payload
unfolding behind_pad
behind_parts lost index payload = parts_cases (eqb lost 0) (pad_text lost (index - 1)) (record_text index payload)
