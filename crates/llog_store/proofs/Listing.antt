-- The bitmap of the update records whose bits are set, and the parts of a log that is read.
use Rattle.std.proofs.Common.{◌≡◌, ◌≢◌, ℕ, ◌+◌, ◌-◌, ◌*◌, ◌/◌, ◌%◌, ◌^◌, ◌<◌, ◌≤◌, Bool, true, false, cond, eqb, ◌&&◌, ◌||◌, List, [], ◌∷◌, ◌++◌, length, get_or, set, take, map, Option, Some, None, Result, Ok, Err, refl, sym, ap, subst, ◌∙◌, arith, inl, inr, ◌⊎◌, bit_or}
use Rattle.std.specs.Int.{bit_at}
use Rattle.std.specs.Prelude.{IfOk}
use Rattle.std.proofs.lemmas.Bool.{cases_lt, eq-eqb}
use Rattle.std.proofs.lemmas.Bool.Decides.{eqb_tells}
use Rattle.std.proofs.lemmas.List.{take_more, take_all, get_or_past}
use Rattle.std.proofs.lemmas.Nat.Bits.{bit_at-zero}
use Rattle.llog_store.specs.declared.fault.LlogFault.{LlogFault}
use Rattle.llog_store.specs.declared.fault.LlogFault.TheVariants as fault
use Rattle.llog_store.specs.declared.place.Place.{Place}
use Rattle.llog_store.specs.Numbers.{zeros, IsBytes}
use Rattle.llog_store.specs.Bitmap.{bitmap, bit_of, set_bits, first_other}
use Rattle.llog_store.specs.Log.{Entry, Log, header_text, records_text, is_live, live_count, log_text, spells}
use Rattle.llog_store.specs.Reading.{◌>>=◌, Header, header_at, Found, records_at, entry_of, no_other, marked_at, log_at, Fails, Gives}
use Rattle.llog_store.specs.Views.{place_of, places_at}
use Rattle.llog_store.specs.Places.{founds_of, places_of}
use Rattle.llog_store.specs.Kept.{IsKept, listed, no_stray, listed_at, parts_at}
use Rattle.llog_store.proofs.Fields.{bind_ok, ok_is}
use Rattle.llog_store.proofs.Marks.{length-bitmap, bytes_same, bytes_none, bitmap_with}
use Rattle.std.proofs.lemmas.List.{length-append}
use Rattle.llog_store.specs.Log.{entry_end}
use Rattle.llog_store.proofs.Fitting.{begins_first, follows_above}
use Rattle.llog_store.proofs.Records.{records_again}
use Rattle.llog_store.proofs.Whole.{log_takes, header_again, length-header, count_below}

-- ---- the bitmap

no_place : (bits : List ℕ) (i : ℕ) → listed bits [] i ≡ false
unfolding listed
no_place bits i = refl

pub listed_none : (bits : List ℕ) (places : List Place) → zeros 32000 ≡ bitmap (listed bits (take 0 places))
listed_none bits places = sym (bytes_none 0 32000) ∙ bytes_same (λ _. false) (listed bits []) 0 32000 (λ i. sym (no_place bits i))

away_cases : (b m : Bool) → (b || (m && false)) ≡ b
away_cases true m = refl
away_cases false true = refl
away_cases false false = refl

or_yes : (b : Bool) → (b || true) ≡ true
or_yes true = refl
or_yes false = refl

or_no : (b : Bool) → (b || false) ≡ b
or_no true = refl
or_no false = refl

or_off : (b : Bool) → (b || false) ≡ (false || b)
or_off true = refl
or_off false = refl

or_assoc : (a b c : Bool) → (a || (b || c)) ≡ ((a || b) || c)
or_assoc true b c = refl
or_assoc false b c = refl

away : (b m : Bool) (p i : ℕ) → p ≢ i → (b || (m && eqb p i)) ≡ b
away b m p i differ = elim (eqb_tells p i) [ inl h ↦ absurd (differ h.1) | inr h ↦ rw h.0 (away_cases b m) ]

there : (b m : Bool) (p : ℕ) → m ≡ true → (b || (m && eqb p p)) ≡ true
there b m p h = rw (h, eq-eqb p p refl) (or_yes b)

none_there : (b m c : Bool) → m ≡ false → (b || (m && c)) ≡ b
none_there b m c h = rw h (or_no b)

listed_snoc : (bits : List ℕ) (ps : List Place) (p : Place) (i : ℕ) → listed bits (ps ++ p ∷ []) i ≡ (listed bits ps i || (bit_of bits p.index && eqb p.index i))
unfolding listed
listed_snoc bits [] p i = or_off (bit_of bits p.index && eqb p.index i)
listed_snoc bits (q ∷ ps) p i = ap (λ (b : Bool). (bit_of bits q.index && eqb q.index i) || b) (listed_snoc bits ps p i) ∙ or_assoc (bit_of bits q.index && eqb q.index i) (listed bits ps i) (bit_of bits p.index && eqb p.index i)

pub listed_set : (bits : List ℕ) (places : List Place) (k : ℕ) (d : Place) → k < length places → true ≡ bit_of bits (get_or places k d).index → (get_or places k d).index < 256000
    → set (bitmap (listed bits (take k places))) ((get_or places k d).index / 8) (bit_or (get_or (bitmap (listed bits (take k places))) ((get_or places k d).index / 8) 0) (1 * 2 ^ ((get_or places k d).index % 8) % 256)) ≡ bitmap (listed bits (take (k + 1) places))
listed_set bits places k d lt marked low =
    let p = get_or places k d in
    let split : take (k + 1) places ≡ take k places ++ p ∷ [] = take_more places k d lt in
    let others : (i : ℕ) → i ≢ p.index → listed bits (take (k + 1) places) i ≡ listed bits (take k places) i = λ i differ.
    ap (λ (ps : List Place). listed bits ps i) split ∙ listed_snoc bits (take k places) p i ∙ away (listed bits (take k places) i) (bit_of bits p.index) p.index i (λ (h : p.index ≡ i). differ (sym h)) in
    let here : listed bits (take (k + 1) places) p.index ≡ true = ap (λ (ps : List Place). listed bits ps p.index) split ∙ listed_snoc bits (take k places) p p.index ∙ there (listed bits (take k places) p.index) (bit_of bits p.index) p.index (sym marked) in
    sym (bitmap_with (listed bits (take k places)) (listed bits (take (k + 1) places)) p.index low others here)

pub listed_unset : (bits : List ℕ) (places : List Place) (k : ℕ) (d : Place) → k < length places → false ≡ bit_of bits (get_or places k d).index → bitmap (listed bits (take k places)) ≡ bitmap (listed bits (take (k + 1) places))
listed_unset bits places k d lt marked =
    let p = get_or places k d in
    let split : take (k + 1) places ≡ take k places ++ p ∷ [] = take_more places k d lt in
    bytes_same (listed bits (take k places)) (listed bits (take (k + 1) places)) 0 32000 (λ i. sym (ap (λ (ps : List Place). listed bits ps i) split ∙ listed_snoc bits (take k places) p i ∙ none_there (listed bits (take k places) i) (bit_of bits p.index) (eqb p.index i) (sym marked)))

pub all_listed : (bits : List ℕ) (places : List Place) (k : ℕ) → length places ≤ k → bitmap (listed bits (take k places)) ≡ bitmap (listed bits places)
all_listed bits places k le = ap (λ (ps : List Place). bitmap (listed bits ps)) (take_all k places le)

-- a bit that is set is within the bitmap
pub bit_low : (bits : List ℕ) (i : ℕ) → length bits ≡ 32000 → true ≡ bit_of bits i → i < 256000
unfolding bit_of
bit_low bits i wide h =
    elim (cases_lt i 256000) [
      | inl low ↦ low
      | inr high ↦
          let past : get_or bits (i / 8) 0 ≡ 0 = get_or_past bits (i / 8) 0 (omega (arith, wide)) in
          let none : eqb (bit_at (get_or bits (i / 8) 0) (i % 8)) 1 ≡ false = ap (λ (b : ℕ). eqb (bit_at b (i % 8)) 1) past ∙ ap (λ (b : ℕ). eqb b 1) (bit_at-zero (i % 8)) in
          absurd (let bad : true ≡ false = h ∙ none in cc)
    ]

-- ---- the parts

same_marks : (bits : List ℕ) (fs : List Found) (i : ℕ) → is_live (map (entry_of bits) fs) i ≡ listed bits (map place_of fs) i
unfolding is_live listed
same_marks bits [] i = refl
same_marks bits (f ∷ fs) i = ap (λ (b : Bool). (bit_of bits f.index && eqb f.index i) || b) (same_marks bits fs i)

bind_err : {A B : Type 0} (r : Result A LlogFault) (f : A → Result B LlogFault) (e : LlogFault) → (r >>= f) ≡ Err e → (r ≡ Err e) ⊎ ((x : A) × (r ≡ Ok x) × (f x ≡ Err e))
bind_err (Ok x) f e h = inr (x, refl, h)
bind_err (Err d) f e h = inl (let same : d ≡ e = cc in ap (λ (x : LlogFault). Err x) same)

stray_err : (o : Option ℕ) (log : Log) (e : LlogFault) → no_stray o ≡ Err e → no_other o log ≡ Err e
stray_err None log e h = absurd cc
stray_err (Some i) log e h = let same : fault.BadBitmap (24 + i) ≡ e = cc in ap (λ (x : LlogFault). Err x) same

stray_ok : (o : Option ℕ) (log : Log) (u : Unit {0}) → no_stray o ≡ Ok u → no_other o log ≡ Ok log
stray_ok None log u h = refl
stray_ok (Some i) log u h = absurd cc

marks_err : (b : Bool) (o : Option ℕ) (log : Log) (e : LlogFault) → cond {A = Result (Unit {0}) LlogFault} b (no_stray o) (Err (fault.BadBitmap 20)) ≡ Err e → cond {A = Result Log LlogFault} b (no_other o log) (Err (fault.BadBitmap 20)) ≡ Err e
marks_err true o log e h = stray_err o log e h
marks_err false o log e h = let same : fault.BadBitmap 20 ≡ e = cc in ap (λ (x : LlogFault). Err x) same

marks_ok : (b : Bool) (o : Option ℕ) (log : Log) (u : Unit {0}) → cond {A = Result (Unit {0}) LlogFault} b (no_stray o) (Err (fault.BadBitmap 20)) ≡ Ok u → cond {A = Result Log LlogFault} b (no_other o log) (Err (fault.BadBitmap 20)) ≡ Ok log
marks_ok true o log u h = stray_ok o log u h
marks_ok false o log u h = absurd cc

listed_err : (h : Header) (fs : List Found) (e : LlogFault) → listed_at h (map place_of fs) ≡ Err e → marked_at h (map (entry_of h.bits) fs) ≡ Err e
unfolding listed_at marked_at
listed_err h fs e r =
    let bits : bitmap (listed h.bits (map place_of fs)) ≡ bitmap (is_live (map (entry_of h.bits) fs)) = bytes_same _ _ 0 32000 (λ i. sym (same_marks h.bits fs i)) in
    marks_err _ _ _ e (subst (λ (x : List ℕ). cond {A = Result (Unit {0}) LlogFault} (eqb h.live (set_bits h.bits)) (no_stray (first_other h.bits x)) (Err (fault.BadBitmap 20)) ≡ Err e) bits r)

listed_ok : (h : Header) (fs : List Found) (u : Unit {0}) → listed_at h (map place_of fs) ≡ Ok u → marked_at h (map (entry_of h.bits) fs) ≡ Ok (record { next = h.next; entries = map (entry_of h.bits) fs })
unfolding listed_at marked_at
listed_ok h fs u r =
    let bits : bitmap (listed h.bits (map place_of fs)) ≡ bitmap (is_live (map (entry_of h.bits) fs)) = bytes_same _ _ 0 32000 (λ i. sym (same_marks h.bits fs i)) in
    marks_ok _ _ _ u (subst (λ (x : List ℕ). cond {A = Result (Unit {0}) LlogFault} (eqb h.live (set_bits h.bits)) (no_stray (first_other h.bits x)) (Err (fault.BadBitmap 20)) ≡ Ok u) bits r)

pub parts_err : (bytes : List ℕ) (e : LlogFault) → parts_at bytes ≡ Err e → log_at bytes ≡ Err e
unfolding parts_at log_at places_at
parts_err bytes e r =
    elim (bind_err (header_at (length bytes) bytes) (λ header. places_at (header.0.next - 1) (length bytes) 1 0 header.1 >>= λ places. listed_at header.0 places >>= λ right. Ok (header.0.next, header.0.live, places)) e r) [
      | inl h ↦ rw h refl
      | inr h ↦ elim (bind_err (places_at (h.0.0.next - 1) (length bytes) 1 0 h.0.1) (λ places. listed_at h.0.0 places >>= λ right. Ok (h.0.0.next, h.0.0.live, places)) e h.2) [
        | inl p ↦ elim (bind_err (records_at (h.0.0.next - 1) (length bytes) 1 0 h.0.1) (λ found. Ok (map place_of found)) e p) [
          | inl q ↦ rw (h.1, q) refl
          | inr q ↦ absurd (let bad = q.2 in cc)
        ]
        | inr p ↦
            let f = bind_ok (records_at (h.0.0.next - 1) (length bytes) 1 0 h.0.1) (λ found. Ok (map place_of found)) p.0 p.1 in
            let same : map place_of f.0 ≡ p.0 = ok_is (map place_of f.0) p.0 f.2 in
            elim (bind_err (listed_at h.0.0 p.0) (λ right. Ok (h.0.0.next, h.0.0.live, p.0)) e p.2) [
              | inl l ↦ rw (h.1, f.1) (listed_err h.0.0 f.0 e (ap (λ (ps : List Place). listed_at h.0.0 ps) same ∙ l))
              | inr l ↦ absurd (let bad = l.2 in cc)
            ]
      ]
    ]

joined_ok : (bytes : List ℕ) (h : Header × List ℕ) (fs : List Found) → header_at (length bytes) bytes ≡ Ok h → records_at (h.0.next - 1) (length bytes) 1 0 h.1 ≡ Ok fs → marked_at h.0 (map (entry_of h.0.bits) fs) ≡ Ok (record { next = h.0.next; entries = map (entry_of h.0.bits) fs }) → log_at bytes ≡ Ok (record { next = h.0.next; entries = map (entry_of h.0.bits) fs })
unfolding log_at
joined_ok bytes h fs a b m = rw (a, b) m

parts_ok : (bytes : List ℕ) (c : ℕ × ℕ × List Place) → parts_at bytes ≡ Ok c → (h : Header × List ℕ) × (fs : List Found) × (header_at (length bytes) bytes ≡ Ok h) × (records_at (h.0.next - 1) (length bytes) 1 0 h.1 ≡ Ok fs) × (log_at bytes ≡ Ok (record { next = h.0.next; entries = map (entry_of h.0.bits) fs })) × ((h.0.next, h.0.live, map place_of fs) ≡ c)
unfolding parts_at log_at places_at
parts_ok bytes c r =
    let h = bind_ok (header_at (length bytes) bytes) (λ header. places_at (header.0.next - 1) (length bytes) 1 0 header.1 >>= λ places. listed_at header.0 places >>= λ right. Ok (header.0.next, header.0.live, places)) c r in
    let p = bind_ok (places_at (h.0.0.next - 1) (length bytes) 1 0 h.0.1) (λ places. listed_at h.0.0 places >>= λ right. Ok (h.0.0.next, h.0.0.live, places)) c h.2 in
    let f = bind_ok (records_at (h.0.0.next - 1) (length bytes) 1 0 h.0.1) (λ found. Ok (map place_of found)) p.0 p.1 in
    let same : map place_of f.0 ≡ p.0 = ok_is (map place_of f.0) p.0 f.2 in
    let l = bind_ok (listed_at h.0.0 p.0) (λ right. Ok (h.0.0.next, h.0.0.live, p.0)) c p.2 in
    let made : ℕ × ℕ × List Place = (h.0.0.next, h.0.0.live, p.0) in
    let whole = joined_ok bytes h.0 f.0 h.1 f.1 (listed_ok h.0.0 f.0 l.0 (ap (λ (ps : List Place). listed_at h.0.0 ps) same ∙ l.1)) in
    (h.0, f.0, h.1, f.1, whole, ap (λ (ps : List Place). (h.0.0.next, h.0.0.live, ps)) same ∙ ok_is made c l.2)

places_found : (place : ℕ) (es : List Entry) → map place_of (founds_of place es) ≡ places_of place es
unfolding founds_of places_of
places_found place [] = refl
places_found place (e ∷ es) = rw (places_found (entry_end place e) es) refl

-- the count and the places, as the records and the header say
read_parts : (bytes : List ℕ) (h : Header × List ℕ) (fs : List Found) (log : Log) → IsBytes bytes → header_at (length bytes) bytes ≡ Ok h → records_at (h.0.next - 1) (length bytes) 1 0 h.1 ≡ Ok fs → spells log bytes → (h.0.live ≡ live_count log.entries) × (map place_of fs ≡ places_of 32768 log.entries)
unfolding log_text
read_parts bytes h fs log fits eh er s =
    let es = log.entries in
    let bits = bitmap (is_live es) in
    let rest = records_text 32768 es in
    let above = follows_above 32768 1 es log.next s.0.follows in
    let few = count_below 32768 1 es log.next s.0.follows in
    let wide = length-bitmap (is_live es) in
    let high = s.0.next in
    let long : 32768 + length rest ≡ length bytes = omega (arith, ap length s.1, length-append (header_text log.next (live_count es) bits) rest, length-header log.next (live_count es) bits wide) in
    let header = header_again (length bytes) log.next (live_count es) bits rest above high (omega (arith, few)) wide in
    let made : Header × List ℕ = (record { next = log.next; live = live_count es; bits = bits }, rest) in
    let h-is : h ≡ made = ok_is h made (sym eh ∙ ap (λ (x : List ℕ). header_at (length bytes) x) s.1 ∙ header) in
    let records = records_again (log.next - 1) (length bytes) 32768 1 es log.next begins_first s.0.follows high (omega (arith, above)) long in
    let fs-are : fs ≡ founds_of 32768 es = ok_is fs (founds_of 32768 es) (sym er ∙ ap (λ (x : Header × List ℕ). records_at (x.0.next - 1) (length bytes) 1 0 x.1) h-is ∙ records) in
    (ap (λ (x : Header × List ℕ). x.0.live) h-is, ap (λ (x : List Found). map place_of x) fs-are ∙ places_found 32768 es)

-- what was read of a log is what is kept of it
pub parts_kept : (bytes : List ℕ) (next live : ℕ) (places : List Place) → IsBytes bytes → parts_at bytes ≡ Ok (next, live, places) → (log : Log) × (log_at bytes ≡ Ok log) × IsKept log bytes places next live
parts_kept bytes next live places fits r =
    let c = parts_ok bytes (next, live, places) r in
    let h = c.0 in
    let fs = c.1 in
    let log : Log = record { next = h.0.next; entries = map (entry_of h.0.bits) fs } in
    let s = log_takes bytes log fits c.4 in
    let same : (h.0.next, h.0.live, map place_of fs) ≡ (next, live, places) = c.5 in
    let next-is : h.0.next ≡ next = ap (λ (x : ℕ × ℕ × List Place). x.0) same in
    let live-is : h.0.live ≡ live = ap (λ (x : ℕ × ℕ × List Place). x.1) same in
    let places-are : map place_of fs ≡ places = ap (λ (x : ℕ × ℕ × List Place). x.2) same in
    let t = read_parts bytes h fs log fits c.2 c.3 s in
    (log, c.4, record { text = s.1; is = s.0; places_are = sym places-are ∙ t.1; next_is = sym next-is; live_is = sym live-is ∙ t.0 })

-- ---- what read answers

pub read_exact : (bytes : List ℕ) (log : Log) (made : Log) → log_at bytes ≡ Ok log → made ≡ log → log_at bytes ≡ Ok made
read_exact bytes log made e is = e ∙ ap (λ (l : Log). Ok l) (sym is)

pub read_fails : (bytes : List ℕ) (e : LlogFault) → Fails e (parts_at bytes) → Fails e (log_at bytes)
read_fails bytes fault.Memory h = tt
read_fails bytes (fault.BadLength n) h = parts_err bytes (fault.BadLength n) h
read_fails bytes (fault.BadIndex n) h = parts_err bytes (fault.BadIndex n) h
read_fails bytes (fault.BadType n) h = parts_err bytes (fault.BadType n) h
read_fails bytes (fault.BadTail n) h = parts_err bytes (fault.BadTail n) h
read_fails bytes (fault.BadPadding n) h = parts_err bytes (fault.BadPadding n) h
read_fails bytes (fault.BadBitmap n) h = parts_err bytes (fault.BadBitmap n) h
read_fails bytes (fault.Truncated n) h = parts_err bytes (fault.Truncated n) h

pub is_found : (bytes : List ℕ) (r : Result Log LlogFault) → IsBytes bytes → Gives (λ (l : Log). l) r (log_at bytes) → IfOk r (λ log. spells log bytes)
is_found bytes (Ok log) fits given = log_takes bytes log fits given
is_found bytes (Err e) fits given = tt
