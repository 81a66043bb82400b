-- What the calls answer, from what is kept.
use Rattle.std.proofs.Common.{◌≡◌, ℕ, ◌+◌, ◌*◌, ◌%◌, ◌<◌, ◌≤◌, Bool, true, false, cond, eqb, ltb, leb, List, [], ◌∷◌, ◌++◌, length, Option, None, Ok, Err, refl, sym, ap, subst, ◌∙◌, arith, inl, inr, ◌⊎◌}
use Rattle.std.proofs.lemmas.Bool.{cases_lt, le-leb, lt-ltb, le-ltb}
use Rattle.std.proofs.lemmas.Bool.Decides.{eqb_tells, leb_tells}
use Rattle.llog_store.specs.declared.append.AppendFault.{AppendFault}
use Rattle.llog_store.specs.declared.append.AppendFault.TheVariants as fault
use Rattle.llog_store.specs.declared.place.Place.{Place}
use Rattle.llog_store.specs.Log.{Log, room, fits_in, record_size, index_of, is_live, log_text}
use Rattle.llog_store.specs.Kept.{IsKept, marked, lost_before, behind_pad, with_numbers, with_bit, append_fault, Refuses}
use Rattle.llog_store.specs.Changes.{given_index}
use Rattle.llog_store.proofs.Fitting.{begins_first, follows_above, fits_false, size_small}
use Rattle.llog_store.proofs.Whole.{count_below}
use Rattle.llog_store.proofs.Keeping.{end_is, one_gone, lost_start}
use Rattle.llog_store.proofs.Seeing.{length_kept, start_inside}
use Rattle.llog_store.proofs.Room.{long_most}

-- ---- append

pub next_kept : (log : Log) (bytes : List ℕ) (places : List Place) (next live : ℕ) → IsKept log bytes places next live → (1 ≤ next) × (next ≤ 256000) × (live < next)
next_kept log bytes places next live k =
    let above = follows_above 32768 1 log.entries log.next k.is.follows in
    let few = count_below 32768 1 log.entries log.next k.is.follows in
    (omega (arith, above, k.next_is), omega (arith, k.is.next, k.next_is), omega (arith, few, k.next_is, k.live_is))

lost_cases : (b : Bool) (place : ℕ) → 24 ≤ room place → (cond b 0 (room place) ≡ 0) ⊎ ((24 ≤ cond b 0 (room place)) × (place % 32768 + cond b 0 (room place) ≡ 32768))
lost_cases true place least = inl refl
lost_cases false place least = inr (least, omega arith)

index_cases : (b : Bool) (rest next : ℕ) → 24 ≤ rest → cond (eqb (cond b 0 rest) 0) next (next + 1) ≡ cond b next (next + 1)
index_cases true rest next least = refl
index_cases false rest next least =
    let some : eqb rest 0 ≡ false = elim (eqb_tells rest 0) [ inl h ↦ absurd (let none = h.1 in omega arith) | inr h ↦ h.0 ] in
    rw some refl

-- the pad that a record needs
pub lost_is : (log : Log) (bytes : List ℕ) (places : List Place) (next live n : ℕ) → IsKept log bytes places next live → (lost_before (length bytes) (record_size n) ≡ 0) ⊎ ((24 ≤ lost_before (length bytes) (record_size n)) × (length bytes % 32768 + lost_before (length bytes) (record_size n) ≡ 32768))
lost_is log bytes places next live n k =
    let ends = end_is 32768 1 log.entries log.next begins_first k.is.follows in
    let least : 24 ≤ room (length bytes) = subst (λ (p : ℕ). 24 ≤ room p) (sym (length_kept log bytes places next live k)) ends.1.some in
    lost_cases (fits_in (room (length bytes)) (record_size n)) (length bytes) least

-- the record stands in one chunk
pub room_is : (place : ℕ) (payload : List ℕ) → length payload ≤ 24576 → (place + lost_before place (record_size (length payload))) % 32768 + record_size (length payload) ≤ 32768
room_is place payload small =
    let size = record_size (length payload) in
    subst (λ (p : ℕ). p % 32768 + size ≤ 32768) (sym (lost_start place size)) (start_inside place (record { index = 0; live = true; payload = payload }) small)

less_cases : (b : Bool) (rest : ℕ) → (b ≡ false → rest < 32768) → cond b 0 rest < 32768
less_cases true rest h = omega arith
less_cases false rest h = h refl

-- a chunk's start needs no pad
pub lost_less : (place n : ℕ) → n ≤ 24576 → lost_before place (record_size n) < 32768
lost_less place n small =
    less_cases (fits_in (room place) (record_size n)) (room place) (λ off. omega (arith, fits_false (room place) (record_size n) off, size_small n small))

pub most_kept : (log : Log) (bytes : List ℕ) (places : List Place) (next live : ℕ) → IsKept log bytes places next live → length bytes ≤ 32768 * 256000
most_kept log bytes places next live k = omega (arith, ap length k.text, long_most log k.is)

pub index_kept : (log : Log) (bytes : List ℕ) (places : List Place) (next live : ℕ) (payload : List ℕ) → IsKept log bytes places next live → cond (eqb (lost_before (length bytes) (record_size (length payload))) 0) next (next + 1) ≡ given_index log payload
index_kept log bytes places next live payload k =
    let ends = end_is 32768 1 log.entries log.next begins_first k.is.follows in
    let least : 24 ≤ room (length bytes) = subst (λ (p : ℕ). 24 ≤ room p) (sym (length_kept log bytes places next live k)) ends.1.some in
    let text : length (log_text log) ≡ length bytes = sym (ap length k.text) in
    let size = record_size (length payload) in
    index_cases (fits_in (room (length bytes)) size) (room (length bytes)) next least ∙ ap (λ (n : ℕ). index_of (length bytes) n size) k.next_is ∙ ap (λ (p : ℕ). index_of p log.next size) (sym text)

pub refuses_long : (log : Log) (payload : List ℕ) → 24576 < length payload → Refuses {X = ℕ} (append_fault log payload) (Err (fault.TooLong (length payload)))
unfolding append_fault
refuses_long log payload long = let yes : ltb 24576 (length payload) ≡ true = lt-ltb _ _ long in rw yes refl

pub refuses_full : (log : Log) (payload : List ℕ) (next : ℕ) → length payload ≤ 24576 → 256000 ≤ given_index log payload → next ≡ log.next → Refuses {X = ℕ} (append_fault log payload) (Err (fault.Full next))
unfolding append_fault
refuses_full log payload next small high is =
    let off : ltb 24576 (length payload) ≡ false = le-ltb _ _ small in
    let yes : leb 256000 (given_index log payload) ≡ true = le-leb _ _ high in
    rw (off, yes, is) refl

no_fault : (log : Log) (payload : List ℕ) → length payload ≤ 24576 → given_index log payload < 256000 → append_fault log payload ≡ None
unfolding append_fault
no_fault log payload small low =
    let off : ltb 24576 (length payload) ≡ false = le-ltb _ _ small in
    let no : leb 256000 (given_index log payload) ≡ false = elim (leb_tells 256000 (given_index log payload)) [ inl h ↦ absurd (let le = h.1 in omega arith) | inr h ↦ h.0 ] in
    rw (off, no) refl

pub refuses_none : (log : Log) (payload : List ℕ) (index : ℕ) → length payload ≤ 24576 → given_index log payload < 256000 → Refuses {X = ℕ} (append_fault log payload) (Ok index)
refuses_none log payload index small low = subst (λ (o : Option AppendFault). Refuses {X = ℕ} o (Ok index)) (sym (no_fault log payload small low)) tt

pub refuses_memory : (log : Log) (payload : List ℕ) → length payload ≤ 24576 → given_index log payload < 256000 → Refuses {X = ℕ} (append_fault log payload) (Err fault.Memory)
refuses_memory log payload small low = subst (λ (o : Option AppendFault). Refuses {X = ℕ} o (Err fault.Memory)) (sym (no_fault log payload small low)) tt

-- ---- cancel

pub low_marked : (bytes : List ℕ) (i : ℕ) → marked bytes i ≡ true → i < 256000
unfolding marked
low_marked bytes i h =
    elim (cases_lt i 256000) [
      | inl low ↦ low
      | inr high ↦ let off : ltb i 256000 ≡ false = le-ltb i 256000 high in absurd (let bad : false ≡ true = sym (rw off refl) ∙ h in cc)
    ]

pub some_live : (log : Log) (bytes : List ℕ) (places : List Place) (next live i : ℕ) → IsKept log bytes places next live → is_live log.entries i ≡ true → 1 ≤ live
some_live log bytes places next live i k h = omega (arith, one_gone i 32768 1 log.entries log.next k.is.follows h, k.live_is)

pub index_some : (lost next index : ℕ) → 1 ≤ next → index ≡ cond (eqb lost 0) next (next + 1) → 1 ≤ index
index_some lost next index some is = elim (eqb_tells lost 0) [
  | inl h ↦ let e : index ≡ next = is ∙ rw h.0 refl in omega arith
  | inr h ↦ let e : index ≡ next + 1 = is ∙ rw h.0 refl in omega arith
]

pub grown_kept : (log : Log) (old grown now : List ℕ) (before after : List Place) (wanted : ℕ) (lost index live : ℕ) (payload : List ℕ) → lost ≡ wanted → grown ≡ old ++ behind_pad lost index payload → after ≡ before ++ record { index = index; at = length old + lost; length = length payload } ∷ [] → now ≡ with_bit (with_numbers grown (index + 1) live) index
    → IsKept log (with_bit (with_numbers (old ++ behind_pad wanted index payload) (index + 1) live) index) (before ++ record { index = index; at = length old + wanted; length = length payload } ∷ []) (index + 1) live → IsKept log now after (index + 1) live
grown_kept log old grown now before after wanted lost index live payload lost-is grown-is after-is now-is k =
    let text : now ≡ with_bit (with_numbers (old ++ behind_pad wanted index payload) (index + 1) live) index = now-is ∙ ap (λ (b : List ℕ). with_bit (with_numbers b (index + 1) live) index) (grown-is ∙ ap (λ (n : ℕ). old ++ behind_pad n index payload) lost-is) in
    let places : after ≡ before ++ record { index = index; at = length old + wanted; length = length payload } ∷ [] = after-is ∙ ap (λ (n : ℕ). before ++ record { index = index; at = length old + n; length = length payload } ∷ []) lost-is in
    subst (λ (b : List ℕ). IsKept log b after (index + 1) live) (sym text) (subst (λ (ps : List Place). IsKept log (with_bit (with_numbers (old ++ behind_pad wanted index payload) (index + 1) live) index) ps (index + 1) live) (sym places) k)
