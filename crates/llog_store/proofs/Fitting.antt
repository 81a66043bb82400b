-- Places in chunks: where a record stands, its rest of the chunk, and the length of its text.
use Rattle.std.proofs.Common.{◌≡◌, ℕ, ◌+◌, ◌-◌, ◌%◌, ◌<◌, ◌≤◌, Bool, true, false, eqb, leb, List, [], ◌∷◌, ◌++◌, length, refl, sym, ◌∙◌, arith, inl, inr, ◌⊎◌}
use Rattle.std.proofs.lemmas.Bool.{eq-eqb, leb-true, le-leb, cases_lt}
use Rattle.std.proofs.lemmas.Bool.Decides.{eqb_tells, leb_tells}
use Rattle.std.proofs.lemmas.List.{length-append}
use Rattle.llog_store.specs.Log.{Entry, room, fits_in, record_size, start_of, index_of, record_text, pad_text, entry_text, entry_end, Follows}
use Rattle.llog_store.proofs.Words.{length-word, length-zeros, pad8_above, pad8_near, pad8_even}

-- ---- what fits

pub fits_true : (rest size : ℕ) → fits_in rest size ≡ true → (rest ≡ size) ⊎ (size + 24 ≤ rest)
unfolding fits_in
fits_true rest size e =
    elim (eqb_tells rest size) [
      | inl h ↦ inl h.1
      | inr h ↦ inr (leb-true (size + 24) rest (sym (rw h.0 refl) ∙ e))
    ]

pub fits_false : (rest size : ℕ) → fits_in rest size ≡ false → rest < size + 24
unfolding fits_in
fits_false rest size e =
    elim (cases_lt rest (size + 24)) [
      | inl lt ↦ lt
      | inr le ↦ let yes : leb (size + 24) rest ≡ true = le-leb (size + 24) rest le in
          elim (eqb_tells rest size) [
            | inl h ↦ absurd (let bad : true ≡ false = sym (rw h.0 refl) ∙ e in cc)
            | inr h ↦ absurd (let bad : true ≡ false = sym (rw (h.0, yes) refl) ∙ e in cc)
          ]
    ]

pub fits_if : (rest size : ℕ) → size + 24 ≤ rest → fits_in rest size ≡ true
unfolding fits_in
fits_if rest size le =
    let yes : leb (size + 24) rest ≡ true = le-leb (size + 24) rest le in
    elim (eqb_tells rest size) [
      | inl h ↦ rw h.0 refl
      | inr h ↦ rw (h.0, yes) refl
    ]

pub fits_same : (rest : ℕ) → fits_in rest rest ≡ true
unfolding fits_in
fits_same rest = rw (eq-eqb rest rest refl) refl

-- nothing fits where no pad stood
pub fits_none : (size : ℕ) → 0 < size → fits_in 0 size ≡ false
unfolding fits_in
fits_none size some =
    let differ : eqb 0 size ≡ false = elim (eqb_tells 0 size) [ inl h ↦ absurd (let same = h.1 in omega arith) | inr h ↦ h.0 ] in
    let no : leb (size + 24) 0 ≡ false = elim (leb_tells (size + 24) 0) [ inl h ↦ absurd (let le = h.1 in omega arith) | inr h ↦ h.0 ] in
    rw (differ, no) refl

-- a chunk's start has room for each record
pub fits_chunk : (place n : ℕ) → place % 32768 ≡ 0 → n ≤ 24576 → fits_in (room place) (record_size n) ≡ true
fits_chunk place n start small = fits_if (room place) (record_size n) (omega (arith, pad8_near n))

-- ---- places where a record can begin

pub record Begins (place : ℕ) : Type 0 where
  pub even : place % 8 ≡ 0
  pub some : 24 ≤ room place

pub begins_first : Begins 32768
begins_first = record { even = refl; some = omega arith }

-- where a record ends that stands at a place
pub begins_behind : (place size : ℕ) → Begins place → size % 8 ≡ 0 → fits_in (room place) size ≡ true → Begins (place + size)
begins_behind place size b even fits =
    elim (fits_true (room place) size fits) [
      | inl same ↦ record { even = let e = b.even in omega arith; some = omega arith }
      | inr less ↦ record { even = let e = b.even in omega arith; some = omega arith }
    ]

pub chunk_start : (place : ℕ) → (place + room place) % 32768 ≡ 0
chunk_start place = omega arith

pub begins_chunk : (place : ℕ) → place % 32768 ≡ 0 → Begins place
begins_chunk place start = record { even = omega arith; some = omega arith }

pub size_even : (n : ℕ) → record_size n % 8 ≡ 0
size_even n = omega (arith, pad8_even n)

pub size_small : (n : ℕ) → n ≤ 24576 → record_size n ≤ 24608
size_small n small = omega (arith, small, pad8_near n, pad8_even n)

-- ---- lengths

pub length-record : (index : ℕ) (payload : List ℕ) → length (record_text index payload) ≡ record_size (length payload)
unfolding record_text
length-record index payload = simp (length-append, length-word, length-zeros) (omega (arith, pad8_above (length payload)))

pub length-pad : (size index : ℕ) → 24 ≤ size → length (pad_text size index) ≡ size
unfolding pad_text
length-pad size index le = simp (length-append, length-word, length-zeros) (omega arith)

-- an entry that fits, and one behind a pad
pub text_fits : (place : ℕ) (e : Entry) → fits_in (room place) (record_size (length e.payload)) ≡ true → entry_text place e ≡ record_text e.index e.payload
unfolding entry_text
text_fits place e h = rw h refl

pub text_behind : (place : ℕ) (e : Entry) → fits_in (room place) (record_size (length e.payload)) ≡ false → entry_text place e ≡ pad_text (room place) (e.index - 1) ++ record_text e.index e.payload
unfolding entry_text
text_behind place e h = rw h refl

pub start_fits : (place size : ℕ) → fits_in (room place) size ≡ true → start_of place size ≡ place
start_fits place size h = rw h refl

pub start_behind : (place size : ℕ) → fits_in (room place) size ≡ false → start_of place size ≡ place + room place
start_behind place size h = rw h refl

pub index_fits : (place index size : ℕ) → fits_in (room place) size ≡ true → index_of place index size ≡ index
index_fits place index size h = rw h refl

pub index_behind : (place index size : ℕ) → fits_in (room place) size ≡ false → index_of place index size ≡ index + 1
index_behind place index size h = rw h refl

bool_cases : (b : Bool) → (b ≡ true) ⊎ (b ≡ false)
bool_cases true = inl refl
bool_cases false = inr refl

pub either_fits : (place : ℕ) (e : Entry) → (fits_in (room place) (record_size (length e.payload)) ≡ true) ⊎ (fits_in (room place) (record_size (length e.payload)) ≡ false)
either_fits place e = bool_cases (fits_in (room place) (record_size (length e.payload)))

pub begins_entry : (place : ℕ) (e : Entry) → Begins place → length e.payload ≤ 24576 → Begins (entry_end place e)
begins_entry place e b small =
    let size = record_size (length e.payload) in
    elim (either_fits place e) [
      | inl here ↦ rw (start_fits place size here) (begins_behind place size b (size_even (length e.payload)) here)
      | inr later ↦ rw (start_behind place size later) (begins_behind (place + room place) size (begins_chunk (place + room place) (chunk_start place)) (size_even (length e.payload)) (fits_chunk (place + room place) (length e.payload) (chunk_start place) small))
    ]

pub length-entry : (place : ℕ) (e : Entry) → Begins place → place + length (entry_text place e) ≡ entry_end place e
length-entry place e b =
    let size = record_size (length e.payload) in
    elim (either_fits place e) [
      | inl here ↦ rw (text_fits place e here, start_fits place size here, length-record e.index e.payload) refl
      | inr later ↦ rw (text_behind place e later, start_behind place size later, length-append (pad_text (room place) (e.index - 1)) (record_text e.index e.payload), length-pad (room place) (e.index - 1) b.some, length-record e.index e.payload) (omega arith)
    ]

-- ---- indexes

pub follows_above : (place index : ℕ) (es : List Entry) (next : ℕ) → Follows place index es next → index ≤ next
unfolding Follows
follows_above place index [] next f = omega arith
follows_above place index (e ∷ es) next f =
    let others = follows_above (entry_end place e) (e.index + 1) es next f.2 in
    elim (either_fits place e) [
      | inl here ↦ omega (arith, f.0, index_fits place index (record_size (length e.payload)) here)
      | inr later ↦ omega (arith, f.0, index_behind place index (record_size (length e.payload)) later)
    ]
