-- How long logs are: what an index costs, what a record adds, and that packing adds nothing.
use Rattle.std.proofs.Common.{◌≡◌, ◌⊎◌, ℕ, ◌+◌, ◌*◌, ◌%◌, ◌≤◌, ◌<◌, Bool, true, false, cond, leb, ap, List, [], ◌∷◌, ◌++◌, length, refl, sym, ◌∙◌, arith, inl, inr}
use Rattle.std.proofs.lemmas.Bool.{cases_lt}
use Rattle.std.proofs.lemmas.List.{length-append}
use Rattle.llog_store.specs.Log.{Entry, Log, IsLog, Follows, room, fits_in, record_size, start_of, live_count, is_live, index_of, entry_end, entry_text, header_text, records_text, log_text, empty_log}
use Rattle.llog_store.specs.Bitmap.{bitmap}
use Rattle.llog_store.specs.Changes.{given_index, appended, all_appended, live_payloads, packed, repacked}
use Rattle.llog_store.proofs.Keeping.{end_is, records_end, follows_more, empty_is}
use Rattle.llog_store.proofs.Whole.{length-header}
use Rattle.llog_store.proofs.Marks.{length-bitmap}
use Rattle.llog_store.proofs.Fitting.{Begins, begins_first, begins_entry, length-entry, either_fits, start_fits, start_behind, index_fits, index_behind, fits_true, fits_false, size_small}

indexes_cost : (place index : ℕ) (es : List Entry) (next : ℕ) → Begins place → Follows place index es next → (24 * next ≤ 24 * index + length (records_text place es)) × (length (records_text place es) + 32768 * index ≤ 32768 * next)
unfolding Follows records_text
indexes_cost place index [] next b f = (omega (arith, f), omega (arith, f))
indexes_cost place index (e ∷ es) next b f =
    let size = record_size (length e.payload) in
    let others = indexes_cost (entry_end place e) (e.index + 1) es next (begins_entry place e b f.1) f.2 in
    let long = length-entry place e b in
    let both = length-append (entry_text place e) (records_text (entry_end place e) es) in
    let some = b.some in
    let small = size_small (length e.payload) f.1 in
    elim (either_fits place e) [
      | inl here ↦ (omega (arith, others.0, long, both, f.0, index_fits place index size here, start_fits place size here), omega (arith, others.1, small, long, both, f.0, index_fits place index size here, start_fits place size here))
      | inr later ↦ (omega (arith, others.0, long, both, some, f.0, index_behind place index size later, start_behind place size later), omega (arith, others.1, small, long, both, some, f.0, index_behind place index size later, start_behind place size later))
    ]

pub log_long : (log : Log) → Follows 32768 1 log.entries log.next → length (log_text log) ≡ records_end 32768 log.entries
unfolding log_text
log_long log f =
    let bits = bitmap (is_live log.entries) in
    let head = length-header log.next (live_count log.entries) bits (length-bitmap (is_live log.entries)) in
    let both = length-append (header_text log.next (live_count log.entries) bits) (records_text 32768 log.entries) in
    let ends = end_is 32768 1 log.entries log.next begins_first f in
    omega (arith, head, both, ends.0)

costs : (log : Log) → IsLog log → (24 * log.next ≤ 24 + length (log_text log)) × (length (log_text log) ≤ 32768 * log.next)
unfolding log_text
costs log is =
    let h = indexes_cost 32768 1 log.entries log.next begins_first is.follows in
    let bits = bitmap (is_live log.entries) in
    let head = length-header log.next (live_count log.entries) bits (length-bitmap (is_live log.entries)) in
    let both = length-append (header_text log.next (live_count log.entries) bits) (records_text 32768 log.entries) in
    (omega (arith, h.0, both), omega (arith, h.1, head, both))

pub next_small : (log : Log) → IsLog log → 24 * log.next ≤ 24 + length (log_text log)
next_small log is = (costs log is).0

pub long_most : (log : Log) → IsLog log → length (log_text log) ≤ 32768 * 256000
long_most log is = let c = costs log is in let n = is.next in omega (arith, c.1, n)

pub index_left : (log : Log) (payload : List ℕ) → IsLog log → length (log_text log) ≤ 5111808 → given_index log payload < 256000
index_left log payload is small =
    let h = next_small log is in
    elim (either_fits (length (log_text log)) (record { index = 0; live = false; payload = payload })) [
      | inl here ↦ omega (arith, h, small, index_fits (length (log_text log)) log.next (record_size (length payload)) here)
      | inr later ↦ omega (arith, h, small, index_behind (length (log_text log)) log.next (record_size (length payload)) later)
    ]

-- ---- one record more

ends_more : (place : ℕ) (es : List Entry) (e : Entry) → records_end place (es ++ e ∷ []) ≡ entry_end (records_end place es) e
ends_more place [] e = refl
ends_more place (x ∷ es) e = ends_more (entry_end place x) es e

next_follows : (log : Log) (payload : List ℕ) → Follows 32768 1 log.entries log.next → length payload ≤ 24576 → Follows 32768 1 (appended log payload).entries (appended log payload).next
unfolding appended
next_follows log payload f small =
    let e : Entry = record { index = given_index log payload; live = true; payload = payload } in
    follows_more 32768 1 log.entries log.next e f (ap (λ (n : ℕ). index_of n log.next (record_size (length payload))) (log_long log f)) small

next_long : (log : Log) (payload : List ℕ) → Follows 32768 1 log.entries log.next → length payload ≤ 24576 → length (log_text (appended log payload)) ≡ start_of (length (log_text log)) (record_size (length payload)) + record_size (length payload)
unfolding appended
next_long log payload f small =
    let e : Entry = record { index = given_index log payload; live = true; payload = payload } in
    log_long (appended log payload) (next_follows log payload f small) ∙ ends_more 32768 log.entries e ∙ ap (λ (n : ℕ). start_of n (record_size (length payload)) + record_size (length payload)) (sym (log_long log f))

fits_or : (b : Bool) → (b ≡ true) ⊎ (b ≡ false)
fits_or true = inl refl
fits_or false = inr refl

-- a record adds itself, and a pad that is less than it and 24 bytes
pub grows : (log : Log) (payload : List ℕ) → IsLog log → length payload ≤ 24576 → length (log_text (appended log payload)) ≤ length (log_text log) + 2 * record_size (length payload) + 24
grows log payload is small =
    let place = length (log_text log) in
    let size = record_size (length payload) in
    let long = next_long log payload is.follows small in
    elim (fits_or (fits_in (room place) size)) [
      | inl here ↦ omega (arith, long, start_fits place size here)
      | inr later ↦ omega (arith, long, start_behind place size later, fits_false (room place) size later)
    ]

-- ---- packing

abbrev place_after : ℕ → List (List ℕ) → ℕ
place_after place [] = place
place_after place (x ∷ xs) = place_after (start_of place (record_size (length x)) + record_size (length x)) xs

abbrev AllSmall : List (List ℕ) → Type 0
AllSmall [] = Unit {0}
AllSmall (x ∷ xs) = (length x ≤ 24576) × AllSmall xs

all_long : (log : Log) (xs : List (List ℕ)) → Follows 32768 1 log.entries log.next → AllSmall xs → length (log_text (all_appended log xs)) ≡ place_after (length (log_text log)) xs
unfolding all_appended
all_long log [] f small = refl
all_long log (x ∷ xs) f small = all_long (appended log x) xs (next_follows log x f small.0) small.1 ∙ ap (λ (n : ℕ). place_after n xs) (next_long log x f small.0)

small_cases : (b : Bool) (x : List ℕ) (xs : List (List ℕ)) → length x ≤ 24576 → AllSmall xs → AllSmall (cond b (x ∷ xs) xs)
small_cases true x xs small rest = (small, rest)
small_cases false x xs small rest = rest

live_small : (place index : ℕ) (es : List Entry) (next : ℕ) → Follows place index es next → AllSmall (live_payloads es)
unfolding Follows live_payloads
live_small place index [] next f = tt
live_small place index (e ∷ es) next f = small_cases e.live e.payload (live_payloads es) f.1 (live_small (entry_end place e) (e.index + 1) es next f.2)

-- A record of a packed log ends where it ended before, or at least a record's length in front of that.
abbrev Before : ℕ → ℕ → Type 0
Before q p = (q ≡ p) ⊎ (q + 32 ≤ p)

abbrev Tidy : ℕ → Type 0
Tidy p = (p % 32768 ≡ 0) ⊎ (32 ≤ p % 32768)

abbrev end_at : ℕ → ℕ → ℕ
end_at p size = start_of p size + size

rest_of : (p : ℕ) → (room p + p % 32768 ≡ 32768) × (p % 32768 < 32768)
rest_of p = (omega arith, omega arith)

tidy_end : (p size : ℕ) → Tidy p → 32 ≤ size → size ≤ 24608 → Tidy (end_at p size)
tidy_end p size t least most =
    elim (fits_or (fits_in (room p) size)) [
      | inl here ↦ rw (start_fits p size here) (elim (fits_true (room p) size here) [
        | inl same ↦ inl (omega (arith, same))
        | inr less ↦ inr (omega (arith, less))
      ])
      | inr later ↦ rw (start_behind p size later) (inr (omega arith))
    ]

-- where a chunk begins, at or before a place
tidy_before : (c p : ℕ) → c % 32768 ≡ 0 → c ≤ p → Tidy p → Before c p
tidy_before c p start le t =
    elim (cases_lt c p) [
      | inl lt ↦ inr (elim t [ inl z ↦ omega (arith, start, lt, z) | inr far ↦ omega (arith, start, lt, far) ])
      | inr same ↦ inl (omega arith)
    ]

added : (q p size : ℕ) → Before q p → Before (q + size) (p + size)
added q p size (inl same) = inl (ap (λ (n : ℕ). n + size) same)
added q p size (inr less) = inr (omega (arith, less))

fits_less : (rest size : ℕ) → fits_in rest size ≡ true → size ≤ rest
fits_less rest size h = elim (fits_true rest size h) [ inl same ↦ omega (arith, same) | inr less ↦ omega (arith, less) ]

-- a record behind places of which one is before the other
step_less : (q p size : ℕ) → q + 32 ≤ p → Tidy p → 32 ≤ size → size ≤ 24608 → Before (end_at q size) (end_at p size)
step_less q p size less t least most =
    elim (fits_or (fits_in (room p) size)) [
      | inl p_here ↦ elim (fits_or (fits_in (room q) size)) [
        | inl q_here ↦ rw (start_fits p size p_here, start_fits q size q_here) (added q p size (inr less))
        | inr q_later ↦
            let there : q + room q ≤ p = omega (arith, less, fits_false (room q) size q_later, fits_less (room p) size p_here) in
            rw (start_fits p size p_here, start_behind q size q_later) (added (q + room q) p size (tidy_before (q + room q) p (omega arith) there t))
      ]
      | inr p_later ↦ elim (fits_or (fits_in (room q) size)) [
        | inl q_here ↦ rw (start_behind p size p_later, start_fits q size q_here) (inr (omega (arith, less)))
        | inr q_later ↦
            let there : q + room q ≤ p + room p = omega (arith, less) in
            rw (start_behind p size p_later, start_behind q size q_later) (added (q + room q) (p + room p) size (tidy_before (q + room q) (p + room p) (omega arith) there (inl (omega arith))))
      ]
    ]

step_live : (q p size : ℕ) → Before q p → Tidy p → 32 ≤ size → size ≤ 24608 → Before (end_at q size) (end_at p size)
step_live q p size (inl same) t least most = inl (ap (λ (n : ℕ). end_at n size) same)
step_live q p size (inr less) t least most = step_less q p size less t least most

end_more : (p size : ℕ) → p + size ≤ end_at p size
end_more p size =
    elim (fits_or (fits_in (room p) size)) [
      | inl here ↦ omega (arith, start_fits p size here)
      | inr later ↦ omega (arith, start_behind p size later)
    ]

step_dead : (q p size : ℕ) → Before q p → 32 ≤ size → Before q (end_at p size)
step_dead q p size (inl same) least = inr (omega (arith, same, end_more p size))
step_dead q p size (inr less) least = inr (omega (arith, less, end_more p size))

packs_cases : (b : Bool) (q p : ℕ) (payload : List ℕ) (xs : List (List ℕ)) (end : ℕ) → Before q p → Tidy p → length payload ≤ 24576
    → ((r : ℕ) → Before r (end_at p (record_size (length payload))) → place_after r xs ≤ end) → place_after q (cond b (payload ∷ xs) xs) ≤ end
packs_cases true q p payload xs end b t small rest = rest (end_at q (record_size (length payload))) (step_live q p (record_size (length payload)) b t (omega arith) (size_small (length payload) small))
packs_cases false q p payload xs end b t small rest = rest q (step_dead q p (record_size (length payload)) b (omega arith))

packs_below : (q p index : ℕ) (es : List Entry) (next : ℕ) → Before q p → Tidy p → Follows p index es next → place_after q (live_payloads es) ≤ records_end p es
unfolding Follows live_payloads
packs_below q p index [] next (inl same) t f = omega (arith, same)
packs_below q p index [] next (inr less) t f = omega (arith, less)
packs_below q p index (e ∷ es) next b t f =
    let size = record_size (length e.payload) in
    packs_cases e.live q p e.payload (live_payloads es) (records_end (entry_end p e) es) b t f.1 (λ r h. packs_below r (entry_end p e) (e.index + 1) es next h (tidy_end p size t (omega arith) (size_small (length e.payload) f.1)) f.2)

empty_long : length (log_text empty_log) ≡ 32768
empty_long = log_long empty_log empty_is.follows

pub packed_short : (log : Log) → IsLog log → length (log_text (packed log)) ≤ length (log_text log)
packed_short log is =
    let made = all_long empty_log (live_payloads log.entries) empty_is.follows (live_small 32768 1 log.entries log.next is.follows) ∙ ap (λ (n : ℕ). place_after n (live_payloads log.entries)) empty_long in
    let below = packs_below 32768 32768 1 log.entries log.next (inl refl) (inl refl) is.follows in
    omega (arith, made, below, log_long log is.follows)

short_cases : (b : Bool) (x y : Log) → length (log_text x) ≤ length (log_text y) → length (log_text (cond b x y)) ≤ length (log_text y)
short_cases true x y h = h
short_cases false x y h = omega arith

pub repacked_short : (log : Log) → IsLog log → length (log_text (repacked log)) ≤ length (log_text log)
repacked_short log is = short_cases (leb (packed log).next 256000) (packed log) log (packed_short log is)
