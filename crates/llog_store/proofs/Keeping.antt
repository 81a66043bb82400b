-- What each call keeps: the bytes are the spelling of the changed log.
use Rattle.std.proofs.Common.{◌≡◌, ◌≢◌, ℕ, ◌+◌, ◌-◌, ◌*◌, ◌/◌, ◌%◌, ◌^◌, ◌<◌, ◌≤◌, Bool, true, false, cond, eqb, ◌&&◌, ◌||◌, List, [], ◌∷◌, ◌++◌, length, get_or, set, take, drop, map, refl, sym, ap, subst, ◌∙◌, append_assoc, arith, inl, inr, bit_or, bit_and}
use Rattle.std.specs.Int.{bit_not, w8}
use Rattle.std.proofs.lemmas.Bool.{eq-eqb}
use Rattle.std.proofs.lemmas.Bool.Decides.{eqb_tells}
use Rattle.std.proofs.lemmas.List.{length-append, append-nil, take_at, drop_at, set-append_right, set-append_left, get_or_append_left, get_or-append_right, drop-drop, length-take}
use Rattle.llog_store.specs.declared.place.Place.{Place}
use Rattle.llog_store.specs.Numbers.{word, zeros}
use Rattle.llog_store.specs.Bitmap.{bitmap}
use Rattle.llog_store.specs.Log.{Entry, Log, room, fits_in, record_size, start_of, index_of, header_front, header_back, header_text, entry_text, entry_end, records_text, Follows, is_live, live_count, log_text, IsLog, empty_log}
use Rattle.llog_store.specs.Reading.{ok_or_empty, log_of}
use Rattle.llog_store.specs.Places.{places_of}
use Rattle.llog_store.specs.Kept.{IsKept, lost_before, behind_pad, with_numbers, with_bit, without_bit}
use Rattle.llog_store.specs.Changes.{given_index, appended, cancelled, without}
use Rattle.llog_store.proofs.Words.{length-word}
use Rattle.llog_store.proofs.Marks.{length-bitmap, bitmap_with, bitmap_without, bytes_same, bytes_none}
use Rattle.llog_store.proofs.Fitting.{Begins, begins_first, begins_entry, either_fits, text_fits, text_behind, length-entry}
use Rattle.llog_store.proofs.Whole.{length-front, length-header, below_none, others_live, log_again}

-- the log of its spelling
pub log_of_text : (log : Log) → IsLog log → log_of (log_text log) ≡ log
unfolding log_of
log_of_text log is = ap ok_or_empty (log_again log is)

-- what is kept of a log is what the bytes say
pub kept_log : (log : Log) (bytes : List ℕ) (places : List Place) (next live : ℕ) → IsKept log bytes places next live → log_of bytes ≡ log
kept_log log bytes places next live k = ap log_of k.text ∙ log_of_text log k.is

pub kept_now : (log : Log) (bytes : List ℕ) (places : List Place) (next live : ℕ) → IsKept log bytes places next live → IsKept (log_of bytes) bytes places next live
kept_now log bytes places next live k = subst (λ (l : Log). IsKept l bytes places next live) (sym (kept_log log bytes places next live k)) k

-- ---- the empty log

no_live : (i : ℕ) → false ≡ is_live [] i
unfolding is_live
no_live i = refl

empty_bits : bitmap (is_live []) ≡ zeros 32000
empty_bits = bytes_same (is_live []) (λ _. false) 0 32000 (λ i. sym (no_live i)) ∙ bytes_none 0 32000

pub empty_is : IsLog empty_log
unfolding Follows
empty_is = record { follows = refl; next = omega arith }

pub empty_text : log_text empty_log ≡ header_text 1 0 (zeros 32000)
unfolding log_text records_text live_count
empty_text = append-nil (header_text 1 0 (bitmap (is_live []))) ∙ ap (λ (b : List ℕ). header_text 1 0 b) empty_bits

pub empty_kept : (bytes : List ℕ) → bytes ≡ header_text 1 0 (zeros 32000) → IsKept empty_log bytes [] 1 0
unfolding live_count places_of
empty_kept bytes e = record { text = e ∙ sym empty_text; is = empty_is; places_are = refl; next_is = refl; live_is = refl }

-- ---- the header's numbers and bits

take_front : (next live : ℕ) (bits rest : List ℕ) → take 16 (header_text next live bits ++ rest) ≡ header_front
unfolding header_text
take_front next live bits rest =
    ap (λ (x : List ℕ). take 16 x) (append_assoc header_front (word next ++ (word live ++ (bits ++ header_back))) rest) ∙ take_at header_front ((word next ++ (word live ++ (bits ++ header_back))) ++ rest) 16 length-front

drop_numbers : (next live : ℕ) (bits rest : List ℕ) → drop 24 (header_text next live bits ++ rest) ≡ (bits ++ header_back) ++ rest
unfolding header_text
drop_numbers next live bits rest =
    let front = header_front ++ (word next ++ word live) in
    let regrouped : header_text next live bits ++ rest ≡ front ++ ((bits ++ header_back) ++ rest) = simp append_assoc in
    let wide : length front ≡ 24 = simp (length-append, length-front, length-word) refl in
    ap (λ (x : List ℕ). drop 24 x) regrouped ∙ drop_at front ((bits ++ header_back) ++ rest) 24 wide

-- other numbers in the header
pub renumbered : (next live next2 live2 : ℕ) (bits rest : List ℕ) → take 16 (header_text next live bits ++ rest) ++ (word next2 ++ (word live2 ++ drop 24 (header_text next live bits ++ rest))) ≡ header_text next2 live2 bits ++ rest
unfolding header_text
renumbered next live next2 live2 bits rest =
    rw (take_front next live bits rest, drop_numbers next live bits rest) (simp append_assoc)

-- another byte in the bitmap
pub bit_written : (next live : ℕ) (bits rest : List ℕ) (k b : ℕ) → length bits ≡ 32000 → k < 32000 → set (header_text next live bits ++ rest) (24 + k) b ≡ header_text next live (set bits k b) ++ rest
unfolding header_text
bit_written next live bits rest k b wide lt =
    let front = header_front ++ (word next ++ word live) in
    let size : length front ≡ 24 = simp (length-append, length-front, length-word) refl in
    let regrouped : header_text next live bits ++ rest ≡ front ++ (bits ++ (header_back ++ rest)) = simp append_assoc in
    let back : header_text next live (set bits k b) ++ rest ≡ front ++ (set bits k b ++ (header_back ++ rest)) = simp append_assoc in
    let there : 24 + k - 24 ≡ k = omega arith in
    let inside : k < length bits = omega (arith, wide) in
    ap (λ (x : List ℕ). set x (24 + k) b) regrouped ∙ set-append_right front (bits ++ (header_back ++ rest)) 24 (24 + k) b size (omega arith) ∙ ap (λ (j : ℕ). front ++ set (bits ++ (header_back ++ rest)) j b) there ∙ ap (λ (x : List ℕ). front ++ x) (set-append_left bits (header_back ++ rest) k b inside) ∙ sym back

-- a byte of the bitmap
pub bit_read : (next live : ℕ) (bits rest : List ℕ) (k : ℕ) → length bits ≡ 32000 → k < 32000 → get_or (header_text next live bits ++ rest) (24 + k) 0 ≡ get_or bits k 0
unfolding header_text
bit_read next live bits rest k wide lt =
    let front = header_front ++ (word next ++ word live) in
    let size : length front ≡ 24 = simp (length-append, length-front, length-word) refl in
    let regrouped : header_text next live bits ++ rest ≡ front ++ (bits ++ (header_back ++ rest)) = simp append_assoc in
    let there : 24 + k - 24 ≡ k = omega arith in
    let inside : k < length bits = omega (arith, wide) in
    ap (λ (x : List ℕ). get_or x (24 + k) 0) regrouped ∙ get_or-append_right front (bits ++ (header_back ++ rest)) 24 (24 + k) 0 size (omega arith) ∙ ap (λ (j : ℕ). get_or (bits ++ (header_back ++ rest)) j 0) there ∙ get_or_append_left bits (header_back ++ rest) 0 k inside

-- two numbers written one after the other
pub two_numbers : (bytes a b : List ℕ) → length a ≡ 4 → 24 ≤ length bytes → take 20 (take 16 bytes ++ (a ++ drop 20 bytes)) ++ (b ++ drop 24 (take 16 bytes ++ (a ++ drop 20 bytes))) ≡ take 16 bytes ++ (a ++ (b ++ drop 24 bytes))
two_numbers bytes a b four long =
    let front = take 16 bytes ++ a in
    let size : length front ≡ 20 = omega (arith, length-append (take 16 bytes) a, length-take 16 bytes, four) in
    let regrouped : take 16 bytes ++ (a ++ drop 20 bytes) ≡ front ++ drop 20 bytes = sym (append_assoc (take 16 bytes) a (drop 20 bytes)) in
    let behind : drop 24 (front ++ drop 20 bytes) ≡ drop 24 bytes = sym (drop-drop 4 20 (front ++ drop 20 bytes)) ∙ ap (λ (x : List ℕ). drop 4 x) (drop_at front (drop 20 bytes) 20 size) ∙ drop-drop 4 20 bytes in
    rw (regrouped, take_at front (drop 20 bytes) 20 size, behind) (append_assoc (take 16 bytes) a (b ++ drop 24 bytes))

-- ---- one record more at the end

-- where records end
abbrev pub records_end : ℕ → List Entry → ℕ
records_end place [] = place
records_end place (e ∷ es) = records_end (entry_end place e) es

pub end_is : (place index : ℕ) (es : List Entry) (next : ℕ) → Begins place → Follows place index es next → (place + length (records_text place es) ≡ records_end place es) × Begins (records_end place es)
unfolding records_text Follows
end_is place index [] next b f = (omega arith, b)
end_is place index (e ∷ es) next b f =
    let others = end_is (entry_end place e) (e.index + 1) es next (begins_entry place e b f.1) f.2 in
    (omega (arith, others.0, length-entry place e b, length-append (entry_text place e) (records_text (entry_end place e) es)), others.1)

pub text_more : (place : ℕ) (es : List Entry) (e : Entry) → records_text place (es ++ e ∷ []) ≡ records_text place es ++ entry_text (records_end place es) e
unfolding records_text
text_more place [] e = append-nil (entry_text place e)
text_more place (f ∷ es) e = ap (λ (x : List ℕ). entry_text place f ++ x) (text_more (entry_end place f) es e) ∙ sym (append_assoc (entry_text place f) (records_text (entry_end place f) es) (entry_text (records_end (entry_end place f) es) e))

pub places_more : (place : ℕ) (es : List Entry) (e : Entry) → places_of place (es ++ e ∷ []) ≡ places_of place es ++ record { index = e.index; at = start_of (records_end place es) (record_size (length e.payload)); length = length e.payload } ∷ []
unfolding places_of
places_more place [] e = refl
places_more place (f ∷ es) e = ap (λ (x : List Place). record { index = f.index; at = start_of place (record_size (length f.payload)); length = length f.payload } ∷ x) (places_more (entry_end place f) es e)

pub follows_more : (place index : ℕ) (es : List Entry) (next : ℕ) (e : Entry) → Follows place index es next → e.index ≡ index_of (records_end place es) next (record_size (length e.payload)) → length e.payload ≤ 24576 → Follows place index (es ++ e ∷ []) (e.index + 1)
unfolding Follows
follows_more place index [] next e f numbered small = (numbered ∙ ap (λ (n : ℕ). index_of place n (record_size (length e.payload))) f, small, refl)
follows_more place index (x ∷ es) next e f numbered small = (f.0, f.1, follows_more (entry_end place x) (x.index + 1) es next e f.2 numbered small)

pub live_more : (es : List Entry) (e : Entry) (i : ℕ) → i ≢ e.index → is_live (es ++ e ∷ []) i ≡ is_live es i
unfolding is_live
live_more [] e i differ = others_live e [] i differ
live_more (x ∷ es) e i differ = ap (λ (b : Bool). (x.live && eqb x.index i) || b) (live_more es e i differ)

or_true : (b : Bool) → (b || true) ≡ true
or_true true = refl
or_true false = refl

pub live_last : (es : List Entry) (e : Entry) → e.live ≡ true → is_live (es ++ e ∷ []) e.index ≡ true
unfolding is_live
live_last [] e is = rw (is, eq-eqb e.index e.index refl) refl
live_last (x ∷ es) e is = rw (live_last es e is) (or_true (x.live && eqb x.index e.index))

pub count_more : (es : List Entry) (e : Entry) → e.live ≡ true → live_count (es ++ e ∷ []) ≡ live_count es + 1
unfolding live_count
count_more [] e is = rw is refl
count_more (x ∷ es) e is = rw (count_more es e is) (omega arith)

pub behind_is : (place : ℕ) (e : Entry) → Begins place → behind_pad (lost_before place (record_size (length e.payload))) e.index e.payload ≡ entry_text place e
unfolding behind_pad
behind_is place e b =
    let size = record_size (length e.payload) in
    elim (either_fits place e) [
      | inl fit ↦ rw (text_fits place e fit, fit) refl
      | inr off ↦
          let some : eqb (room place) 0 ≡ false = elim (eqb_tells (room place) 0) [ inl h ↦ absurd (let none = h.1 in let least = b.some in omega arith) | inr h ↦ h.0 ] in
          rw (text_behind place e off, off, some) refl
    ]

lost_cases : (place : ℕ) (b : Bool) → place + cond b 0 (room place) ≡ cond b place (place + room place)
lost_cases place true = omega arith
lost_cases place false = refl

pub lost_start : (place size : ℕ) → place + lost_before place size ≡ start_of place size
lost_start place size = lost_cases place (fits_in (room place) size)

marked_text : (next live next2 live2 : ℕ) (es es2 : List Entry) (rest : List ℕ) (index : ℕ) → index < 256000 → ((i : ℕ) → i ≢ index → is_live es2 i ≡ is_live es i) → is_live es2 index ≡ true
    → with_bit (with_numbers (header_text next live (bitmap (is_live es)) ++ rest) next2 live2) index ≡ header_text next2 live2 (bitmap (is_live es2)) ++ rest
marked_text next live next2 live2 es es2 rest index low others here =
    let bits = bitmap (is_live es) in
    let wide = length-bitmap (is_live es) in
    let k : index / 8 < 32000 = omega arith in
    let numbers = renumbered next live next2 live2 bits rest in
    ap (λ (x : List ℕ). with_bit x index) numbers
    ∙ ap (λ (b : ℕ). set (header_text next2 live2 bits ++ rest) (24 + index / 8) (bit_or b (1 * 2 ^ (index % 8) % 256))) (bit_read next2 live2 bits rest (index / 8) wide k)
    ∙ bit_written next2 live2 bits rest (index / 8) (bit_or (get_or bits (index / 8) 0) (1 * 2 ^ (index % 8) % 256)) wide k
    ∙ ap (λ (b : List ℕ). header_text next2 live2 b ++ rest) (sym (bitmap_with (is_live es) (is_live es2) index low others here))

unmarked_text : (next live next2 live2 : ℕ) (es es2 : List Entry) (rest : List ℕ) (index : ℕ) → index < 256000 → ((i : ℕ) → i ≢ index → is_live es2 i ≡ is_live es i) → is_live es2 index ≡ false
    → without_bit (with_numbers (header_text next live (bitmap (is_live es)) ++ rest) next2 live2) index ≡ header_text next2 live2 (bitmap (is_live es2)) ++ rest
unmarked_text next live next2 live2 es es2 rest index low others here =
    let bits = bitmap (is_live es) in
    let wide = length-bitmap (is_live es) in
    let k : index / 8 < 32000 = omega arith in
    let numbers = renumbered next live next2 live2 bits rest in
    ap (λ (x : List ℕ). without_bit x index) numbers
    ∙ ap (λ (b : ℕ). set (header_text next2 live2 bits ++ rest) (24 + index / 8) (bit_and b (bit_not w8 (1 * 2 ^ (index % 8) % 256)))) (bit_read next2 live2 bits rest (index / 8) wide k)
    ∙ bit_written next2 live2 bits rest (index / 8) (bit_and (get_or bits (index / 8) 0) (bit_not w8 (1 * 2 ^ (index % 8) % 256))) wide k
    ∙ ap (λ (b : List ℕ). header_text next2 live2 b ++ rest) (sym (bitmap_without (is_live es) (is_live es2) index low others here))

appended_is : (log : Log) (payload : List ℕ) (index : ℕ) → index ≡ given_index log payload → {bytes : List ℕ} {places : List Place} {next live : ℕ} → IsKept (record { next = index + 1; entries = log.entries ++ (record { index = index; live = true; payload = payload } ∷ []) }) bytes places next live → IsKept (appended log payload) bytes places next live
unfolding appended
appended_is log payload index is {bytes = b} {places = p} {next = n} {live = l} k = subst (λ (i : ℕ). IsKept (record { next = i + 1; entries = log.entries ++ (record { index = i; live = true; payload = payload } ∷ []) }) b p n l) is k

pub append_kept : (log : Log) (bytes : List ℕ) (places : List Place) (next live : ℕ) (payload : List ℕ) (index : ℕ) → IsKept log bytes places next live → length payload ≤ 24576 → index ≡ given_index log payload → index < 256000
    → IsKept (appended log payload) (with_bit (with_numbers (bytes ++ behind_pad (lost_before (length bytes) (record_size (length payload))) index payload) (index + 1) (live + 1)) index) (places ++ record { index = index; at = length bytes + lost_before (length bytes) (record_size (length payload)); length = length payload } ∷ []) (index + 1) (live + 1)
unfolding log_text appended
append_kept log bytes places next live payload index k small index-is low =
    let es = log.entries in
    let e : Entry = record { index = index; live = true; payload = payload } in
    let size = record_size (length payload) in
    let bits = bitmap (is_live es) in
    let records = records_text 32768 es in
    let ends = end_is 32768 1 es log.next begins_first k.is.follows in
    let long : length bytes ≡ records_end 32768 es = ap length k.text ∙ length-append (header_text log.next (live_count es) bits) records ∙ ap (λ (n : ℕ). n + length records) (length-header log.next (live_count es) bits (length-bitmap (is_live es))) ∙ ends.0 in
    let whole : length (log_text log) ≡ records_end 32768 es = ap length (sym k.text) ∙ long in
    let numbered : index ≡ index_of (records_end 32768 es) log.next size = index-is ∙ ap (λ (n : ℕ). index_of n log.next size) whole in
    let added : behind_pad (lost_before (length bytes) size) index payload ≡ entry_text (records_end 32768 es) e = ap (λ (n : ℕ). behind_pad (lost_before n size) index payload) long ∙ behind_is (records_end 32768 es) e ends.1 in
    let grown : bytes ++ behind_pad (lost_before (length bytes) size) index payload ≡ header_text log.next (live_count es) bits ++ records_text 32768 (es ++ e ∷ []) = rw (added, k.text, append_assoc, text_more 32768 es e) refl in
    let marked = marked_text log.next (live_count es) (index + 1) (live + 1) es (es ++ e ∷ []) (records_text 32768 (es ++ e ∷ [])) index low (λ i differ. live_more es e i differ) (live_last es e refl) in
    let counted : live + 1 ≡ live_count (es ++ e ∷ []) = ap (λ (n : ℕ). n + 1) k.live_is ∙ sym (count_more es e refl) in
    appended_is log payload index index-is (record {
      text = ap (λ (x : List ℕ). with_bit (with_numbers x (index + 1) (live + 1)) index) grown ∙ marked ∙ ap (λ (n : ℕ). header_text (index + 1) n (bitmap (is_live (es ++ e ∷ []))) ++ records_text 32768 (es ++ e ∷ [])) counted;
      is = record { follows = follows_more 32768 1 es log.next e k.is.follows numbered small; next = omega arith };
      places_are = rw (k.places_are, long, lost_start (records_end 32768 es) size) (sym (places_more 32768 es e));
      next_is = refl;
      live_is = counted;
    })

-- ---- one record cancelled

index_cases : (i : ℕ) (e : Entry) (b : Bool) → (cond {A = Entry} b (record { index = e.index; live = false; payload = e.payload }) e).index ≡ e.index
index_cases i e true = refl
index_cases i e false = refl

payload_cases : (i : ℕ) (e : Entry) (b : Bool) → (cond {A = Entry} b (record { index = e.index; live = false; payload = e.payload }) e).payload ≡ e.payload
payload_cases i e true = refl
payload_cases i e false = refl

and_off : (b : Bool) → (false && false) ≡ (b && false)
and_off true = refl
and_off false = refl

pub and_false : (b : Bool) → (b && false) ≡ false
and_false true = refl
and_false false = refl

pub and_with : (b : Bool) → (b && true) ≡ b
and_with true = refl
and_with false = refl

pub or_off : (b : Bool) → (b || false) ≡ b
or_off true = refl
or_off false = refl

pub and_or_off : (b c : Bool) → ((b && false) || c) ≡ c
and_or_off true c = refl
and_or_off false c = refl

pub neither : (a b : Bool) → (a || b) ≡ false → (a ≡ false) × (b ≡ false)
neither true b h = absurd cc
neither false b h = (refl, h)

same_index : (i : ℕ) (e : Entry) → (without i e).index ≡ e.index
same_index i e = index_cases i e (eqb e.index i)

same_payload : (i : ℕ) (e : Entry) → (without i e).payload ≡ e.payload
same_payload i e = payload_cases i e (eqb e.index i)

text_same : (i place : ℕ) (es : List Entry) → records_text place (map (without i) es) ≡ records_text place es
unfolding records_text entry_text
text_same i place [] = refl
text_same i place (e ∷ es) = rw (same_index i e, same_payload i e, text_same i (entry_end place e) es) refl

places_same : (i place : ℕ) (es : List Entry) → places_of place (map (without i) es) ≡ places_of place es
unfolding places_of
places_same i place [] = refl
places_same i place (e ∷ es) = rw (same_index i e, same_payload i e, places_same i (entry_end place e) es) refl

follows_same : (i place index : ℕ) (es : List Entry) (next : ℕ) → Follows place index es next → Follows place index (map (without i) es) next
unfolding Follows
follows_same i place index [] next f = f
follows_same i place index (e ∷ es) next f =
    let others = follows_same i (entry_end place e) (e.index + 1) es next f.2 in
    rw (same_index i e, same_payload i e) (f.0, f.1, others)

away_same : (i m : ℕ) (e : Entry) → i ≢ m → ((without m e).live && eqb e.index i) ≡ (e.live && eqb e.index i)
away_same i m e differ =
    elim (eqb_tells e.index m) [
      | inl h ↦
          let off : eqb e.index i ≡ false = elim (eqb_tells e.index i) [ inl k ↦ absurd (differ (sym k.1 ∙ h.1)) | inr k ↦ k.0 ] in
          rw (off, h.0) (and_off e.live)
      | inr h ↦ rw h.0 refl
    ]

live_same : (i m : ℕ) (es : List Entry) → i ≢ m → is_live (map (without m) es) i ≡ is_live es i
unfolding is_live
live_same i m [] differ = refl
live_same i m (e ∷ es) differ = rw (same_index m e, away_same i m e differ, live_same i m es differ) refl

here_gone : (m : ℕ) (e : Entry) → ((without m e).live && eqb e.index m) ≡ false
here_gone m e =
    elim (eqb_tells e.index m) [
      | inl h ↦ rw h.0 refl
      | inr h ↦ rw h.0 (and_false e.live)
    ]

live_gone : (m : ℕ) (es : List Entry) → is_live (map (without m) es) m ≡ false
unfolding is_live
live_gone m [] = refl
live_gone m (e ∷ es) = rw (same_index m e, here_gone m e, live_gone m es) refl

-- where no live record has the index, none is gone
none_gone : (m : ℕ) (es : List Entry) → is_live es m ≡ false → live_count (map (without m) es) ≡ live_count es
unfolding is_live live_count
none_gone m [] h = refl
none_gone m (e ∷ es) h =
    let parts = neither (e.live && eqb e.index m) (is_live es m) h in
    elim (eqb_tells e.index m) [
      | inl k ↦
          let dead : e.live ≡ false = sym (and_with e.live) ∙ sym (ap (λ (b : Bool). e.live && b) k.0) ∙ parts.0 in
          rw (none_gone m es parts.1, k.0, dead) refl
      | inr k ↦ rw (none_gone m es parts.1, k.0) refl
    ]

pub one_gone : (m place index : ℕ) (es : List Entry) (next : ℕ) → Follows place index es next → is_live es m ≡ true → live_count (map (without m) es) + 1 ≡ live_count es
unfolding is_live live_count Follows
one_gone m place index [] next f h = absurd cc
one_gone m place index (e ∷ es) next f h =
    elim (eqb_tells e.index m) [
      | inl k ↦
          let same = k.1 in
          let after : is_live es m ≡ false = below_none (entry_end place e) (e.index + 1) es next m f.2 (omega arith) in
          let alive : e.live ≡ true = sym (or_off (e.live && true) ∙ and_with e.live) ∙ sym (rw (k.0, after) refl) ∙ h in
          rw (none_gone m es after, k.0, alive) (omega arith)
      | inr k ↦
          let later : is_live es m ≡ true = sym (and_or_off e.live (is_live es m)) ∙ sym (ap (λ (b : Bool). (e.live && b) || is_live es m) k.0) ∙ h in
          let ih = one_gone m (entry_end place e) (e.index + 1) es next f.2 later in
          rw k.0 (omega (arith, ih))
    ]

pub cancel_kept : (log : Log) (bytes : List ℕ) (places : List Place) (next live : ℕ) (index : ℕ) → IsKept log bytes places next live → is_live log.entries index ≡ true → index < 256000 → IsKept (cancelled log index) (without_bit (with_numbers bytes next (live - 1)) index) places next (live - 1)
unfolding log_text cancelled
cancel_kept log bytes places next live index k alive low =
    let es = log.entries in
    let es2 = map (without index) es in
    let gone = one_gone index 32768 1 es log.next k.is.follows alive in
    let counted : live - 1 ≡ live_count es2 = omega (arith, gone, k.live_is) in
    let rest = records_text 32768 es in
    let written = unmarked_text log.next (live_count es) next (live - 1) es es2 rest index low (λ i differ. live_same i index es differ) (live_gone index es) in
    record {
      text = ap (λ (x : List ℕ). without_bit (with_numbers x next (live - 1)) index) k.text ∙ written ∙ rw (counted, k.next_is, text_same index 32768 es) refl;
      is = record { follows = follows_same index 32768 1 es log.next k.is.follows; next = k.is.next };
      places_are = k.places_are ∙ sym (places_same index 32768 es);
      next_is = k.next_is;
      live_is = counted;
    }

-- ---- all records gone

wiped_header : (next live : ℕ) (bits : List ℕ) → length bits ≡ 32000 → take 24 (header_text next live bits) ++ (zeros 32000 ++ drop 32024 (header_text next live bits)) ≡ header_text next live (zeros 32000)
unfolding header_text
wiped_header next live bits wide =
    let front = header_front ++ (word next ++ word live) in
    let size : length front ≡ 24 = simp (length-append, length-front, length-word) refl in
    let regrouped : header_text next live bits ≡ front ++ (bits ++ header_back) = simp append_assoc in
    let regrouped2 : header_text next live bits ≡ (front ++ bits) ++ header_back = simp append_assoc in
    let size2 : length (front ++ bits) ≡ 32024 = omega (arith, length-append front bits, size, wide) in
    let first : take 24 (header_text next live bits) ≡ front = ap (λ (x : List ℕ). take 24 x) regrouped ∙ take_at front (bits ++ header_back) 24 size in
    let last : drop 32024 (header_text next live bits) ≡ header_back = ap (λ (x : List ℕ). drop 32024 x) regrouped2 ∙ drop_at (front ++ bits) header_back 32024 size2 in
    let back : header_text next live (zeros 32000) ≡ front ++ (zeros 32000 ++ header_back) = simp append_assoc in
    rw (first, last) (sym back)

pub clear_kept : (log : Log) (bytes : List ℕ) (places : List Place) (next live : ℕ) → IsKept log bytes places next live → IsKept empty_log (with_numbers (take 24 (take 32768 bytes) ++ (zeros 32000 ++ drop 32024 (take 32768 bytes))) 1 0) [] 1 0
unfolding log_text
clear_kept log bytes places next live k =
    let bits = bitmap (is_live log.entries) in
    let wide = length-bitmap (is_live log.entries) in
    let head = header_text log.next (live_count log.entries) bits in
    let cut : take 32768 bytes ≡ head = ap (λ (x : List ℕ). take 32768 x) k.text ∙ take_at head (records_text 32768 log.entries) 32768 (length-header log.next (live_count log.entries) bits wide) in
    let wiped = wiped_header log.next (live_count log.entries) bits wide in
    let numbers : with_numbers (header_text log.next (live_count log.entries) (zeros 32000) ++ []) 1 0 ≡ header_text 1 0 (zeros 32000) ++ [] = renumbered log.next (live_count log.entries) 1 0 (zeros 32000) [] in
    let plain : header_text log.next (live_count log.entries) (zeros 32000) ≡ header_text log.next (live_count log.entries) (zeros 32000) ++ [] = sym (append-nil _) in
    empty_kept _ (ap (λ (x : List ℕ). with_numbers (take 24 x ++ (zeros 32000 ++ drop 32024 x)) 1 0) cut ∙ ap (λ (x : List ℕ). with_numbers x 1 0) (wiped ∙ plain) ∙ numbers ∙ append-nil (header_text 1 0 (zeros 32000)))
