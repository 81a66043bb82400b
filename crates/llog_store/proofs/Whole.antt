-- A whole log: what was written is read again, and what is read was written so.
use Rattle.std.proofs.Common.{◌≡◌, ◌≢◌, ℕ, ◌+◌, ◌-◌, ◌^◌, ◌<◌, ◌≤◌, Bool, true, false, cond, eqb, leb, ◌&&◌, ◌||◌, List, [], ◌∷◌, ◌++◌, length, map, Option, Some, None, Result, Ok, Err, refl, sym, ap, subst, ◌∙◌, append_assoc, arith, inl, inr}
use Rattle.std.proofs.lemmas.Bool.{eqb-true, eq-eqb, leb-true, le-leb}
use Rattle.std.proofs.lemmas.Bool.Decides.{eqb_tells}
use Rattle.std.proofs.lemmas.List.{length-append}
use Rattle.llog_store.specs.declared.fault.LlogFault.{LlogFault}
use Rattle.llog_store.specs.declared.fault.LlogFault.TheVariants as fault
use Rattle.llog_store.specs.Numbers.{word, zeros, IsBytes}
use Rattle.llog_store.specs.Bitmap.{bitmap, bit_of, set_bits, first_other}
use Rattle.llog_store.specs.Log.{Entry, Log, record_size, header_front, header_back, header_text, entry_end, records_text, Follows, is_live, live_count, log_text, IsLog, spells}
use Rattle.llog_store.specs.Reading.{◌>>=◌, at, field_at, number_at, known_at, zeros_at, Header, next_at, front_at, back_at, header_at, records_at, entry_of, no_other, marked_at, log_at}
use Rattle.llog_store.specs.Places.{founds_of}
use Rattle.llog_store.proofs.Words.{length-word, length-zeros}
use Rattle.llog_store.proofs.Fields.{bind_ok, guard_ok, ok_is, Takes, Takes-then, Takes-length, field_takes, field_again, number_takes, number_again, known_takes, known_again, zeros_take, zeros_again}
use Rattle.llog_store.proofs.Pieces.{both}
use Rattle.llog_store.proofs.Marks.{length-bitmap, bit_is, one_more_set, none_set, bytes_same, same_bytes, no_other_of_same}
use Rattle.llog_store.proofs.Fitting.{begins_first, either_fits, index_fits, index_behind, follows_above}
use Rattle.llog_store.proofs.Records.{records_take, records_again}

-- ---- the header

pub next_takes : (len : ℕ) (bytes : List ℕ) (n : ℕ) (rest : List ℕ) → IsBytes bytes → next_at len bytes ≡ Ok (n, rest) → Takes bytes (word n) rest × (1 ≤ n) × (n ≤ 256000)
unfolding next_at
next_takes len bytes n rest fits e =
    let a = bind_ok (number_at len bytes) (λ m. cond (leb 1 m.0 && leb m.0 256000) (Ok m) (Err (fault.BadIndex (at len bytes)))) (n, rest) e in
    let g = guard_ok (leb 1 a.0.0 && leb a.0.0 256000) (fault.BadIndex (at len bytes)) a.0 (n, rest) a.2 in
    let t = number_takes len bytes a.0.0 a.0.1 fits a.1 in
    let b = both (leb 1 a.0.0) (leb a.0.0 256000) g.0 in
    subst (λ (p : ℕ × List ℕ). Takes bytes (word p.0) p.1 × (1 ≤ p.0) × (p.0 ≤ 256000)) g.1 (t.0, leb-true _ _ b.0, leb-true _ _ b.1)

pub next_again : (len n : ℕ) (rest : List ℕ) → 1 ≤ n → n ≤ 256000 → next_at len (word n ++ rest) ≡ Ok (n, rest)
unfolding next_at
next_again len n rest low high = rw (number_again len n rest (omega arith), le-leb 1 n low, le-leb n 256000 high) refl

pub record TakesHeader (bytes : List ℕ) (h : Header) (rest : List ℕ) : Type 0 where
  pub taken : Takes bytes (header_text h.next h.live h.bits) rest
  pub low : 1 ≤ h.next
  pub high : h.next ≤ 256000
  pub wide : length h.bits ≡ 32000
  pub live : h.live < 2 ^ 32

pub front_takes : (len : ℕ) (bytes rest : List ℕ) → IsBytes bytes → front_at len bytes ≡ Ok rest → Takes bytes header_front rest
unfolding front_at header_front
front_takes len bytes rest fits e =
    let a = bind_ok (known_at len 32768 (fault.BadLength (at len bytes)) bytes) (λ a. known_at len 0 (fault.BadIndex (at len a)) a >>= λ b. known_at len 0x10645539 (fault.BadType (at len b)) b >>= λ c. zeros_at len 4 c) rest e in
    let b = bind_ok (known_at len 0 (fault.BadIndex (at len a.0)) a.0) (λ b. known_at len 0x10645539 (fault.BadType (at len b)) b >>= λ c. zeros_at len 4 c) rest a.2 in
    let c = bind_ok (known_at len 0x10645539 (fault.BadType (at len b.0)) b.0) (λ c. zeros_at len 4 c) rest b.2 in
    let ta = known_takes len 32768 (fault.BadLength (at len bytes)) bytes a.0 fits a.1 in
    let tb = known_takes len 0 (fault.BadIndex (at len a.0)) a.0 b.0 ta.fits b.1 in
    let tc = known_takes len 0x10645539 (fault.BadType (at len b.0)) b.0 c.0 tb.fits c.1 in
    let td = zeros_take len 4 c.0 rest tc.fits c.2 in
    let x2 = Takes-then b.0 (word 0x10645539) c.0 (zeros 4) rest tc td in
    let x1 = Takes-then a.0 (word 0) b.0 (word 0x10645539 ++ zeros 4) rest tb x2 in
    Takes-then bytes (word 32768) a.0 (word 0 ++ (word 0x10645539 ++ zeros 4)) rest ta x1

pub front_again : (len : ℕ) (rest : List ℕ) → front_at len (header_front ++ rest) ≡ Ok rest
unfolding front_at header_front
front_again len rest =
    let r3 = zeros 4 ++ rest in
    let r2 = word 0x10645539 ++ r3 in
    let r1 = word 0 ++ r2 in
    let regrouped : header_front ++ rest ≡ word 32768 ++ r1 = simp append_assoc in
    ap (λ (x : List ℕ). front_at len x) regrouped ∙ rw (known_again len 32768 (fault.BadLength (at len (word 32768 ++ r1))) r1 (omega arith), known_again len 0 (fault.BadIndex (at len r1)) r2 (omega arith), known_again len 0x10645539 (fault.BadType (at len r2)) r3 (omega arith)) (zeros_again len 4 rest)

pub back_takes : (len : ℕ) (bytes rest : List ℕ) → IsBytes bytes → back_at len bytes ≡ Ok rest → Takes bytes header_back rest
unfolding back_at header_back
back_takes len bytes rest fits e =
    let a = bind_ok (zeros_at len 736 bytes) (λ a. known_at len 32768 (fault.BadTail (at len a)) a >>= λ b. known_at len 0 (fault.BadTail (at len b)) b) rest e in
    let b = bind_ok (known_at len 32768 (fault.BadTail (at len a.0)) a.0) (λ b. known_at len 0 (fault.BadTail (at len b)) b) rest a.2 in
    let ta = zeros_take len 736 bytes a.0 fits a.1 in
    let tb = known_takes len 32768 (fault.BadTail (at len a.0)) a.0 b.0 ta.fits b.1 in
    let tc = known_takes len 0 (fault.BadTail (at len b.0)) b.0 rest tb.fits b.2 in
    Takes-then bytes (zeros 736) a.0 (word 32768 ++ word 0) rest ta (Takes-then a.0 (word 32768) b.0 (word 0) rest tb tc)

pub back_again : (len : ℕ) (rest : List ℕ) → back_at len (header_back ++ rest) ≡ Ok rest
unfolding back_at header_back
back_again len rest =
    let r2 = word 0 ++ rest in
    let r1 = word 32768 ++ r2 in
    let regrouped : header_back ++ rest ≡ zeros 736 ++ r1 = simp append_assoc in
    ap (λ (x : List ℕ). back_at len x) regrouped ∙ rw (zeros_again len 736 r1, known_again len 32768 (fault.BadTail (at len r1)) r2 (omega arith)) (known_again len 0 (fault.BadTail (at len r2)) rest (omega arith))

pub header_takes : (len : ℕ) (bytes : List ℕ) (h : Header) (rest : List ℕ) → IsBytes bytes → header_at len bytes ≡ Ok (h, rest) → TakesHeader bytes h rest
unfolding header_at header_text
header_takes len bytes h rest fits e =
    let a = bind_ok (front_at len bytes) (λ a. next_at len a >>= λ next. number_at len next.1 >>= λ live. field_at len 32000 live.1 >>= λ bits. back_at len bits.1 >>= λ b. Ok (record { next = next.0; live = live.0; bits = bits.0 }, b)) (h, rest) e in
    let n = bind_ok (next_at len a.0) (λ next. number_at len next.1 >>= λ live. field_at len 32000 live.1 >>= λ bits. back_at len bits.1 >>= λ b. Ok (record { next = next.0; live = live.0; bits = bits.0 }, b)) (h, rest) a.2 in
    let l = bind_ok (number_at len n.0.1) (λ live. field_at len 32000 live.1 >>= λ bits. back_at len bits.1 >>= λ b. Ok (record { next = n.0.0; live = live.0; bits = bits.0 }, b)) (h, rest) n.2 in
    let m = bind_ok (field_at len 32000 l.0.1) (λ bits. back_at len bits.1 >>= λ b. Ok (record { next = n.0.0; live = l.0.0; bits = bits.0 }, b)) (h, rest) l.2 in
    let b = bind_ok (back_at len m.0.1) (λ b. Ok (record { next = n.0.0; live = l.0.0; bits = m.0.0 }, b)) (h, rest) m.2 in
    let ta = front_takes len bytes a.0 fits a.1 in
    let tn = next_takes len a.0 n.0.0 n.0.1 ta.fits n.1 in
    let tl = number_takes len n.0.1 l.0.0 l.0.1 tn.0.fits l.1 in
    let tm = field_takes len 32000 l.0.1 m.0.0 m.0.1 tl.0.fits m.1 in
    let tb = back_takes len m.0.1 b.0 tm.0.fits b.1 in
    let x3 = Takes-then l.0.1 m.0.0 m.0.1 header_back b.0 tm.0 tb in
    let x2 = Takes-then n.0.1 (word l.0.0) l.0.1 (m.0.0 ++ header_back) b.0 tl.0 x3 in
    let x1 = Takes-then a.0 (word n.0.0) n.0.1 (word l.0.0 ++ (m.0.0 ++ header_back)) b.0 tn.0 x2 in
    let x0 = Takes-then bytes header_front a.0 (word n.0.0 ++ (word l.0.0 ++ (m.0.0 ++ header_back))) b.0 ta x1 in
    let made : Header × List ℕ = (record { next = n.0.0; live = l.0.0; bits = m.0.0 }, b.0) in
    subst (λ (p : Header × List ℕ). TakesHeader bytes p.0 p.1) (ok_is made (h, rest) b.2) (record { taken = x0; low = tn.1; high = tn.2; wide = tm.1; live = tl.1 })

pub header_again : (len next live : ℕ) (bits rest : List ℕ) → 1 ≤ next → next ≤ 256000 → live < 2 ^ 32 → length bits ≡ 32000 → header_at len (header_text next live bits ++ rest) ≡ Ok (record { next = next; live = live; bits = bits }, rest)
unfolding header_at header_text
header_again len next live bits rest low high small wide =
    let r3 = header_back ++ rest in
    let r2 = bits ++ r3 in
    let r1 = word live ++ r2 in
    let r0 = word next ++ r1 in
    let regrouped : header_text next live bits ++ rest ≡ header_front ++ r0 = simp append_assoc in
    ap (λ (x : List ℕ). header_at len x) regrouped ∙ rw (front_again len r0, next_again len next r1 low high, number_again len live r2 small, field_again len 32000 bits r3 wide, back_again len rest) refl

pub length-front : length header_front ≡ 16
unfolding header_front
length-front = simp (length-append, length-word, length-zeros) refl

pub length-back : length header_back ≡ 744
unfolding header_back
length-back = simp (length-append, length-word, length-zeros) refl

pub length-header : (next live : ℕ) (bits : List ℕ) → length bits ≡ 32000 → length (header_text next live bits) ≡ 32768
unfolding header_text
length-header next live bits wide = simp (length-append, length-word, length-front, length-back, wide) refl

-- ---- which records are live

and_no : (b : Bool) → ((b && false) || false) ≡ false
and_no true = refl
and_no false = refl

and_yes : (b : Bool) → ((b && true) || false) ≡ b
and_yes true = refl
and_yes false = refl

-- no record stands below the first index
pub below_none : (place index : ℕ) (es : List Entry) (next i : ℕ) → Follows place index es next → i < index → is_live es i ≡ false
unfolding Follows is_live
below_none place index [] next i f lt = refl
below_none place index (e ∷ es) next i f lt =
    let numbered : index ≤ e.index = elim (either_fits place e) [ inl fit ↦ omega (arith, f.0, index_fits place index (record_size (length e.payload)) fit) | inr off ↦ omega (arith, f.0, index_behind place index (record_size (length e.payload)) off) ] in
    elim (eqb_tells e.index i) [
      | inl h ↦ absurd (let same = h.1 in omega arith)
      | inr h ↦ rw (h.0, below_none (entry_end place e) (e.index + 1) es next i f.2 (omega arith)) (and_no e.live)
    ]

pub first_live_is : (place index : ℕ) (e : Entry) (es : List Entry) (next : ℕ) → Follows place index (e ∷ es) next → is_live (e ∷ es) e.index ≡ e.live
unfolding Follows is_live
first_live_is place index e es next f = rw (eq-eqb e.index e.index refl, below_none (entry_end place e) (e.index + 1) es next e.index f.2 (omega arith)) (and_yes e.live)

and_away : (b c : Bool) → ((b && false) || c) ≡ c
and_away true c = refl
and_away false c = refl

dead : (e : Entry) (es : List Entry) (i : ℕ) → e.live ≡ false → is_live (e ∷ es) i ≡ is_live es i
unfolding is_live
dead e es i is = rw is refl

pub others_live : (e : Entry) (es : List Entry) (i : ℕ) → i ≢ e.index → is_live (e ∷ es) i ≡ is_live es i
unfolding is_live
others_live e es i differ =
    elim (eqb_tells e.index i) [
      | inl h ↦ absurd (differ (sym h.1))
      | inr h ↦ rw h.0 (and_away e.live (is_live es i))
    ]

-- bits that say which records are live give the records back
pub marks_back : (bits : List ℕ) (place index : ℕ) (es : List Entry) (next : ℕ) → Follows place index es next → ((i : ℕ) → index ≤ i → i < next → bit_of bits i ≡ is_live es i) → map (entry_of bits) (founds_of place es) ≡ es
unfolding Follows founds_of
marks_back bits place index [] next f h = refl
marks_back bits place index (e ∷ es) next f h =
    let numbered : index ≤ e.index = elim (either_fits place e) [ inl fit ↦ omega (arith, f.0, index_fits place index (record_size (length e.payload)) fit) | inr off ↦ omega (arith, f.0, index_behind place index (record_size (length e.payload)) off) ] in
    let above = follows_above (entry_end place e) (e.index + 1) es next f.2 in
    let here : bit_of bits e.index ≡ e.live = h e.index numbered (omega arith) ∙ first_live_is place index e es next f in
    let rest = marks_back bits (entry_end place e) (e.index + 1) es next f.2 (λ i low high. h i (omega arith) high ∙ others_live e es i (λ (same : i ≡ e.index). absurd (omega arith))) in
    rw (here, rest) refl

no_records : set_bits (bitmap (is_live [])) ≡ live_count []
unfolding is_live live_count
no_records = none_set

live_step : (place index : ℕ) (e : Entry) (es : List Entry) (next : ℕ) → Follows place index (e ∷ es) next → e.index < 256000 → (l : Bool) → e.live ≡ l → set_bits (bitmap (is_live es)) ≡ live_count es → set_bits (bitmap (is_live (e ∷ es))) ≡ live_count (e ∷ es)
unfolding Follows live_count
live_step place index e es next f low true is ih =
    let more = one_more_set (is_live es) (is_live (e ∷ es)) e.index low (λ i differ. others_live e es i differ) (below_none (entry_end place e) (e.index + 1) es next e.index f.2 (omega arith)) (first_live_is place index e es next f ∙ is) in
    more ∙ rw (ih, is) (omega arith)
live_step place index e es next f low false is ih =
    ap set_bits (bytes_same (is_live (e ∷ es)) (is_live es) 0 32000 (λ i. dead e es i is)) ∙ ih ∙ rw is (omega arith)

-- the set bits are as many as the live records
pub live_bits : (place index : ℕ) (es : List Entry) (next : ℕ) → Follows place index es next → next ≤ 256000 → set_bits (bitmap (is_live es)) ≡ live_count es
unfolding Follows
live_bits place index [] next f low = no_records
live_bits place index (e ∷ es) next f low =
    let above = follows_above (entry_end place e) (e.index + 1) es next f.2 in
    live_step place index e es next f (omega arith) e.live refl (live_bits (entry_end place e) (e.index + 1) es next f.2 low)

count_step : (index here count next : ℕ) (live : Bool) → index ≤ here → here + 1 + count ≤ next → index + (cond live 1 0 + count) ≤ next
count_step index here count next true le h = omega arith
count_step index here count next false le h = omega arith

-- there are no more live records than records, and no more records than indexes
pub count_below : (place index : ℕ) (es : List Entry) (next : ℕ) → Follows place index es next → index + live_count es ≤ next
unfolding Follows live_count
count_below place index [] next f = omega arith
count_below place index (e ∷ es) next f =
    let others = count_below (entry_end place e) (e.index + 1) es next f.2 in
    let numbered : index ≤ e.index = elim (either_fits place e) [ inl fit ↦ omega (arith, f.0, index_fits place index (record_size (length e.payload)) fit) | inr off ↦ omega (arith, f.0, index_behind place index (record_size (length e.payload)) off) ] in
    count_step index e.index (live_count es) next e.live numbered others

-- ---- the whole

no_other_ok : (o : Option ℕ) (log made : Log) → no_other o made ≡ Ok log → (o ≡ None) × (made ≡ log)
no_other_ok None log made e = (refl, ok_is made log e)
no_other_ok (Some i) log made e = absurd cc

marked_cases : (h : Header) (es : List Entry) (b : Bool) (log : Log) → cond {A = Result Log LlogFault} b (no_other (first_other h.bits (bitmap (is_live es))) (record { next = h.next; entries = es })) (Err (fault.BadBitmap 20)) ≡ Ok log
    → (b ≡ true) × (first_other h.bits (bitmap (is_live es)) ≡ None) × (record { next = h.next; entries = es } ≡ log)
marked_cases h es true log e = let n = no_other_ok (first_other h.bits (bitmap (is_live es))) log (record { next = h.next; entries = es }) e in (refl, n.0, n.1)
marked_cases h es false log e = absurd cc

whole_is : (bytes : List ℕ) (next live : ℕ) (bits : List ℕ) (es : List Entry) (rest : List ℕ) (log : Log) → bytes ≡ header_text next live bits ++ rest → rest ≡ records_text 32768 es → live ≡ live_count es → bits ≡ bitmap (is_live es) → IsLog (record { next = next; entries = es }) → record { next = next; entries = es } ≡ log → spells log bytes
unfolding log_text
whole_is bytes next live bits es rest log parts rest-is live-is bits-are is made =
    let text : bytes ≡ log_text (record { next = next; entries = es }) = parts ∙ rw (rest-is, live-is, bits-are) refl in
    subst (λ (l : Log). spells l bytes) made (is, text)

pub log_takes : (bytes : List ℕ) (log : Log) → IsBytes bytes → log_at bytes ≡ Ok log → spells log bytes
unfolding log_at marked_at log_text
log_takes bytes log fits e =
    let h = bind_ok (header_at (length bytes) bytes) (λ header. records_at (header.0.next - 1) (length bytes) 1 0 header.1 >>= λ found. marked_at header.0 (map (entry_of header.0.bits) found)) log e in
    let r = bind_ok (records_at (h.0.0.next - 1) (length bytes) 1 0 h.0.1) (λ found. marked_at h.0.0 (map (entry_of h.0.0.bits) found)) log h.2 in
    let es = map (entry_of h.0.0.bits) r.0 in
    let th = header_takes (length bytes) bytes h.0.0 h.0.1 fits h.1 in
    let long = Takes-length bytes (header_text h.0.0.next h.0.0.live h.0.0.bits) h.0.1 th.taken in
    let tr = records_take h.0.0.bits (h.0.0.next - 1) (length bytes) 32768 1 0 h.0.1 r.0 th.taken.fits (omega (arith, long, length-header h.0.0.next h.0.0.live h.0.0.bits th.wide)) (λ (bad : 0 ≢ 0). absurd (bad refl)) r.1 in
    let m = marked_cases h.0.0 es (eqb h.0.0.live (set_bits h.0.0.bits)) log r.2 in
    let next-is : 1 + (h.0.0.next - 1) ≡ h.0.0.next = omega (arith, th.low) in
    let follows : Follows 32768 1 es h.0.0.next = subst (λ (n : ℕ). Follows 32768 1 es n) next-is tr.follows in
    let bits-are : h.0.0.bits ≡ bitmap (is_live es) = same_bytes h.0.0.bits (bitmap (is_live es)) (th.wide ∙ sym (length-bitmap (is_live es))) m.1 in
    let live-is : h.0.0.live ≡ live_count es = eqb-true _ _ m.0 ∙ ap set_bits bits-are ∙ live_bits 32768 1 es h.0.0.next follows th.high in
    whole_is bytes h.0.0.next h.0.0.live h.0.0.bits es h.0.1 log th.taken.parts tr.text live-is bits-are (record { follows = follows; next = th.high }) m.2

pub log_again : (log : Log) → IsLog log → log_at (log_text log) ≡ Ok log
unfolding log_at marked_at log_text
log_again log is =
    let es = log.entries in
    let bits = bitmap (is_live es) in
    let rest = records_text 32768 es in
    let len = length (header_text log.next (live_count es) bits ++ rest) in
    let above = follows_above 32768 1 es log.next is.follows in
    let few = count_below 32768 1 es log.next is.follows in
    let wide = length-bitmap (is_live es) in
    let long : 32768 + length rest ≡ len = omega (arith, length-append (header_text log.next (live_count es) bits) rest, length-header log.next (live_count es) bits wide) in
    let header = header_again len log.next (live_count es) bits rest above is.next (let high = is.next in omega (arith, few)) wide in
    let records = records_again (log.next - 1) len 32768 1 es log.next begins_first is.follows is.next (omega (arith, above)) long in
    let back = marks_back bits 32768 1 es log.next is.follows (λ i low high. bit_is (is_live es) i (let most = is.next in omega arith)) in
    let counted : live_count es ≡ set_bits bits = sym (live_bits 32768 1 es log.next is.follows is.next) in
    rw (header, records, back, eq-eqb _ _ counted, no_other_of_same bits) refl
