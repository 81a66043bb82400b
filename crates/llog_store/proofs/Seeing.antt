-- The update records, seen in the bytes at their places.
use Rattle.std.proofs.Common.{◌≡◌, ℕ, ◌+◌, ◌-◌, ◌/◌, ◌%◌, ◌<◌, ◌≤◌, Bool, true, false, ltb, ◌&&◌, ◌||◌, List, [], ◌∷◌, ◌++◌, length, get_or, take, drop, map, All, refl, sym, ap, subst, ◌∙◌, append_assoc, arith, inl, inr}
use Rattle.std.specs.List.{AllByRecursion}
use Rattle.std.proofs.lemmas.Bool.{cases_lt, lt-ltb, le-ltb}
use Rattle.std.proofs.lemmas.Bool.Decides.{eqb_tells}
use Rattle.std.proofs.lemmas.List.{length-append, take_at, drop_at, length-map}
use Rattle.std.proofs.lemmas.List.Elements.{All-from_recursion}
use Rattle.llog_store.specs.declared.place.Place.{Place}
use Rattle.llog_store.specs.Numbers.{word, zeros, pad8}
use Rattle.llog_store.specs.Bitmap.{bitmap, bit_of}
use Rattle.llog_store.specs.Log.{Entry, Log, room, fits_in, record_size, start_of, record_text, pad_text, header_text, entry_text, entry_end, records_text, Follows, is_live, live_count, log_text}
use Rattle.llog_store.specs.Places.{places_of}
use Rattle.llog_store.specs.Kept.{IsKept, marked, seen, IsWithin}
use Rattle.llog_store.proofs.Words.{length-word, length-zeros, pad8_above}
use Rattle.llog_store.proofs.Marks.{length-bitmap, bit_is}
use Rattle.llog_store.proofs.Fitting.{fits_true, size_small, Begins, begins_first, begins_entry, either_fits, text_fits, text_behind, start_fits, start_behind, index_fits, index_behind, length-entry, length-pad, follows_above}
use Rattle.llog_store.proofs.Whole.{length-header, first_live_is, others_live}
use Rattle.llog_store.proofs.Keeping.{bit_read, records_end, end_is}

-- a payload, where a record stands behind some bytes
record_payload : (front rest : List ℕ) (index : ℕ) (payload : List ℕ) (at : ℕ) → length front ≡ at → take (length payload) (drop (at + 24) (front ++ (record_text index payload ++ rest))) ≡ payload
unfolding record_text
record_payload front rest index payload at long =
    let n = length payload in
    let size = record_size n in
    let head = word size ++ (word index ++ (word 0x106a0000 ++ (zeros 4 ++ (word n ++ zeros 4)))) in
    let tail = zeros (pad8 n - n) ++ (word size ++ (word index ++ rest)) in
    let regrouped : front ++ (record_text index payload ++ rest) ≡ (front ++ head) ++ (payload ++ tail) = simp append_assoc in
    let wide : length (front ++ head) ≡ at + 24 = simp (length-append, length-word, length-zeros) (omega (arith, long)) in
    ap (λ (x : List ℕ). take n (drop (at + 24) x)) regrouped ∙ ap (λ (x : List ℕ). take n x) (drop_at (front ++ head) (payload ++ tail) (at + 24) wide) ∙ take_at payload tail n refl

entry_payload : (front rest : List ℕ) (place : ℕ) (e : Entry) → Begins place → length front ≡ place → take (length e.payload) (drop (start_of place (record_size (length e.payload)) + 24) (front ++ (entry_text place e ++ rest))) ≡ e.payload
entry_payload front rest place e b long =
    let size = record_size (length e.payload) in
    elim (either_fits place e) [
      | inl fit ↦ rw (text_fits place e fit, start_fits place size fit) (record_payload front rest e.index e.payload place long)
      | inr off ↦
          let pad = pad_text (room place) (e.index - 1) in
          let regrouped : front ++ (entry_text place e ++ rest) ≡ (front ++ pad) ++ (record_text e.index e.payload ++ rest) = rw (text_behind place e off) (simp append_assoc) in
          let there : length (front ++ pad) ≡ place + room place = omega (arith, length-append front pad, length-pad (room place) (e.index - 1) b.some, long) in
          rw (regrouped, start_behind place size off) (record_payload (front ++ pad) rest e.index e.payload (place + room place) there)
    ]

place_bound : (place : ℕ) (e : Entry) → start_of place (record_size (length e.payload)) + 24 + length e.payload < entry_end place e
place_bound place e = omega (arith, pad8_above (length e.payload))

fits_less : (rest size : ℕ) → fits_in rest size ≡ true → size ≤ rest
fits_less rest size h = elim (fits_true rest size h) [ inl same ↦ omega (arith, same) | inr less ↦ omega (arith, less) ]

-- a record stands in one chunk
pub start_inside : (place : ℕ) (e : Entry) → length e.payload ≤ 24576 → start_of place (record_size (length e.payload)) % 32768 + record_size (length e.payload) ≤ 32768
start_inside place e small =
    let size = record_size (length e.payload) in
    elim (either_fits place e) [
      | inl fit ↦ rw (start_fits place size fit) (omega (arith, fits_less (room place) size fit))
      | inr off ↦ rw (start_behind place size off) (omega (arith, size_small (length e.payload) small))
    ]

payload_inside : (place : ℕ) (e : Entry) → length e.payload ≤ 24576 → start_of place (record_size (length e.payload)) % 32768 + 24 + length e.payload ≤ 32768
payload_inside place e small = omega (arith, start_inside place e small, pad8_above (length e.payload))

end_above : (place : ℕ) (es : List Entry) → place ≤ records_end place es
end_above place [] = omega arith
end_above place (e ∷ es) =
    let later = end_above (entry_end place e) es in
    let size = record_size (length e.payload) in
    elim (either_fits place e) [
      | inl fit ↦ omega (arith, later, start_fits place size fit)
      | inr off ↦ omega (arith, later, start_behind place size off)
    ]

-- the records from a place on, behind some bytes
pub seen_from : (bytes front : List ℕ) (place index : ℕ) (es : List Entry) (next : ℕ) → Begins place → Follows place index es next → length front ≡ place → bytes ≡ front ++ records_text place es → ((i : ℕ) → index ≤ i → i < next → marked bytes i ≡ is_live es i) → map (seen bytes) (places_of place es) ≡ es
unfolding records_text Follows places_of
seen_from bytes front place index [] next b f long parts marks = refl
seen_from bytes front place index (e ∷ es) next b f long parts marks =
    let size = record_size (length e.payload) in
    let numbered : index ≤ e.index = elim (either_fits place e) [ inl fit ↦ omega (arith, f.0, index_fits place index size fit) | inr off ↦ omega (arith, f.0, index_behind place index size off) ] in
    let above = follows_above (entry_end place e) (e.index + 1) es next f.2 in
    let live : marked bytes e.index ≡ e.live = marks e.index numbered (omega arith) ∙ first_live_is place index e es next f in
    let payload : take (length e.payload) (drop (start_of place size + 24) bytes) ≡ e.payload = ap (λ (x : List ℕ). take (length e.payload) (drop (start_of place size + 24) x)) parts ∙ entry_payload front (records_text (entry_end place e) es) place e b long in
    let front2 = front ++ entry_text place e in
    let long2 : length front2 ≡ entry_end place e = omega (arith, length-append front (entry_text place e), long, length-entry place e b) in
    let parts2 : bytes ≡ front2 ++ records_text (entry_end place e) es = parts ∙ sym (append_assoc front (entry_text place e) (records_text (entry_end place e) es)) in
    let rest = seen_from bytes front2 (entry_end place e) (e.index + 1) es next (begins_entry place e b f.1) f.2 long2 parts2 (λ i low high. marks i (omega arith) high ∙ others_live e es i (λ (same : i ≡ e.index). absurd (omega arith))) in
    rw (live, payload, rest) refl

within_from : (place index : ℕ) (es : List Entry) (next len : ℕ) → Follows place index es next → records_end place es ≤ len → AllByRecursion (IsWithin len) (places_of place es)
unfolding Follows places_of
within_from place index [] next len f le = tt
within_from place index (e ∷ es) next len f le =
    ((omega (arith, place_bound place e, end_above (entry_end place e) es), f.1, payload_inside place e f.1), within_from (entry_end place e) (e.index + 1) es next len f.2 le)

-- ---- what is kept

pub length_kept : (log : Log) (bytes : List ℕ) (places : List Place) (next live : ℕ) → IsKept log bytes places next live → length bytes ≡ records_end 32768 log.entries
unfolding log_text
length_kept log bytes places next live k =
    let bits = bitmap (is_live log.entries) in
    ap length k.text ∙ length-append (header_text log.next (live_count log.entries) bits) (records_text 32768 log.entries) ∙ ap (λ (n : ℕ). n + length (records_text 32768 log.entries)) (length-header log.next (live_count log.entries) bits (length-bitmap (is_live log.entries))) ∙ (end_is 32768 1 log.entries log.next begins_first k.is.follows).0

pub long_kept : (log : Log) (bytes : List ℕ) (places : List Place) (next live : ℕ) → IsKept log bytes places next live → 32768 ≤ length bytes
long_kept log bytes places next live k = omega (arith, length_kept log bytes places next live k, end_above 32768 log.entries)

and_no : (b : Bool) → ((b && false) || false) ≡ false
and_no true = refl
and_no false = refl

-- no record stands from the next index on
above_none : (place index : ℕ) (es : List Entry) (next i : ℕ) → Follows place index es next → next ≤ i → is_live es i ≡ false
unfolding Follows is_live
above_none place index [] next i f le = refl
above_none place index (e ∷ es) next i f le =
    let above = follows_above (entry_end place e) (e.index + 1) es next f.2 in
    elim (eqb_tells e.index i) [
      | inl h ↦ absurd (let same = h.1 in omega arith)
      | inr h ↦ rw (h.0, above_none (entry_end place e) (e.index + 1) es next i f.2 le) (and_no e.live)
    ]

pub marked_kept : (log : Log) (bytes : List ℕ) (places : List Place) (next live : ℕ) (i : ℕ) → IsKept log bytes places next live → marked bytes i ≡ is_live log.entries i
unfolding marked bit_of log_text
marked_kept log bytes places next live i k =
    let bits = bitmap (is_live log.entries) in
    elim (cases_lt i 256000) [
      | inl low ↦
          let inside : i / 8 < 32000 = omega arith in
          let yes : ltb i 256000 ≡ true = lt-ltb i 256000 low in
          let byte : get_or bytes (24 + i / 8) 0 ≡ get_or bits (i / 8) 0 = ap (λ (x : List ℕ). get_or x (24 + i / 8) 0) k.text ∙ bit_read log.next (live_count log.entries) bits (records_text 32768 log.entries) (i / 8) (length-bitmap (is_live log.entries)) inside in
          rw (yes, byte) (bit_is (is_live log.entries) i low)
      | inr high ↦
          let off : ltb i 256000 ≡ false = le-ltb i 256000 high in
          let none = above_none 32768 1 log.entries log.next i k.is.follows (let most = k.is.next in omega arith) in
          rw (off, none) refl
    ]

-- the update records are those that are seen at the places
pub seen_kept : (log : Log) (bytes : List ℕ) (places : List Place) (next live : ℕ) → IsKept log bytes places next live → map (seen bytes) places ≡ log.entries
unfolding log_text
seen_kept log bytes places next live k =
    let bits = bitmap (is_live log.entries) in
    ap (λ (ps : List Place). map (seen bytes) ps) k.places_are ∙ seen_from bytes (header_text log.next (live_count log.entries) bits) 32768 1 log.entries log.next begins_first k.is.follows (length-header log.next (live_count log.entries) bits (length-bitmap (is_live log.entries))) k.text (λ i low high. marked_kept log bytes places next live i k)

pub within_kept : (log : Log) (bytes : List ℕ) (places : List Place) (next live : ℕ) → IsKept log bytes places next live → All (IsWithin (length bytes)) places
within_kept log bytes places next live k =
    All-from_recursion (IsWithin (length bytes)) places (subst (λ (ps : List Place). AllByRecursion (IsWithin (length bytes)) ps) (sym k.places_are) (within_from 32768 1 log.entries log.next (length bytes) k.is.follows (omega (arith, length_kept log bytes places next live k))))

-- there are no more update records than indexes
pub records_below : (place index : ℕ) (es : List Entry) (next : ℕ) → Follows place index es next → index + length es ≤ next
unfolding Follows
records_below place index [] next f = omega arith
records_below place index (e ∷ es) next f =
    let others = records_below (entry_end place e) (e.index + 1) es next f.2 in
    elim (either_fits place e) [
      | inl fit ↦ omega (arith, others, f.0, index_fits place index (record_size (length e.payload)) fit)
      | inr off ↦ omega (arith, others, f.0, index_behind place index (record_size (length e.payload)) off)
    ]

pub count_kept : (log : Log) (bytes : List ℕ) (places : List Place) (next live : ℕ) → IsKept log bytes places next live → (length places ≡ length log.entries) × (length places < 256000)
count_kept log bytes places next live k =
    let same : length places ≡ length log.entries = sym (length-map places (seen bytes)) ∙ ap length (seen_kept log bytes places next live k) in
    (same, let most = k.is.next in omega (arith, same, records_below 32768 1 log.entries log.next k.is.follows))
