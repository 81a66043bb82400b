-- The index of a log has its live records, whatever changes the log.
use Rattle.std.proofs.Common.{◌≡◌, ◌≢◌, ℕ, zero, suc, ◌+◌, ◌<◌, ◌≤◌, ◌⊎◌, Bool, true, false, cond, leb, eqb, ◌==◌, ◌&&◌, ◌||◌, if◌then◌else◌, List, [], ◌∷◌, ◌++◌, map, Option, Some, None, refl, sym, ap, subst, ◌∙◌, arith, inl, inr}
use Rattle.std.specs.declared.cmp.Ordering.{Ordering}
use Rattle.std.specs.declared.cmp.Ordering.TheVariants.{Less, Equal, Greater}
use Rattle.std.specs.Ordering.{nat_cmp, ordering_then, is_gt, eq_by_cmp}
use Rattle.std.specs.Cmp.{IsTotalOrder, nat_cmp_total, eq_by_cmp_equiv}
use Rattle.std.specs.BTreeMap.{is_at}
use Rattle.std.specs.BTreeSet.{BTreeSet, contains, Updates}
use Rattle.std.specs.List.{list_any}
use Rattle.std.proofs.lemmas.Bool.{true≢false, eqb-true, eq-eqb, leb-true, le-leb, le-ltb, lt-ltb}
use Rattle.std.proofs.lemmas.Bool.Decides.{eqb_tells, leb_tells}
use Rattle.std.proofs.lemmas.Cmp.{on_total, then_total}
use Rattle.std.proofs.lemmas.Map.Lookups.{CmpEqualImpliesEq, exact_pairs, exact_unsigned}
use Rattle.std.proofs.lemmas.Map.Views.{tells_apart}
use Rattle.std.proofs.lemmas.Option.{none-some}
use Rattle.llog_store.specs.Log.{Entry, Log, IsLog, empty_log, is_live}
use Rattle.llog_store.specs.Changes.{given_index, appended, without, first_live}
use Rattle.llog_store.specs.Changes as log
use Rattle.target_state.specs.declared.indexed.LiveRecord.{LiveRecord}
use Rattle.target_state.specs.Marking.{id_in, is_up_to, without_done, cancelled_log}
use Rattle.target_state.specs.Indexed.{live_cmp, has_id, is_entry, is_listed, noted_at, AreListed}
use Rattle.target_state.proofs.Cancelling.{Rises, log_rises, both_true, none_first, some_first, found, entry, other, untouched}

-- ---- tests

pub and_with : (b : Bool) → (b && true) ≡ b
and_with true = refl
and_with false = refl

pub and_off : (b : Bool) → (b && false) ≡ false
and_off true = refl
and_off false = refl

pub or_true : (b : Bool) → (b || true) ≡ true
or_true true = refl
or_true false = refl

or_off : (b : Bool) → (b || false) ≡ b
or_off true = refl
or_off false = refl

or_swap : (a b c : Bool) → (a || (b || c)) ≡ (b || (a || c))
or_swap true b c = sym (or_true b)
or_swap false b c = refl

or_move : (a c r : Bool) → ((a || c) || r) ≡ (c || (a || r))
or_move true c r = sym (or_true c)
or_move false c r = refl

pub either : (a b : Bool) → (a || b) ≡ true → (a ≡ true) ⊎ (b ≡ true)
either true b h = inl refl
either false b h = inr h

neither : (a b : Bool) → (a || b) ≡ false → (a ≡ false) × (b ≡ false)
neither true b h = absurd (true≢false h)
neither false b h = (refl, h)

off_with : (a b c : Bool) → (a && c) ≡ false → ((a && b) && c) ≡ false
off_with true true c h = h
off_with true false c h = refl
off_with false b c h = refl

pub told : (b : Bool) → (b ≡ true) ⊎ (b ≡ false)
told true = inl refl
told false = inr refl

-- ---- the order of live records

live_total : IsTotalOrder live_cmp
live_total = then_total (on_total (λ (r : LiveRecord). r.master) nat_cmp_total) (then_total (on_total (λ (r : LiveRecord). r.batch) nat_cmp_total) (on_total (λ (r : LiveRecord). r.index) nat_cmp_total))

exact_live : CmpEqualImpliesEq live_cmp
exact_live a b h = ap (λ (p : ℕ × (ℕ × ℕ)). record { master = p.0; batch = p.1.0; index = p.1.1 })
    (exact_pairs nat_cmp (λ (x y : ℕ × ℕ). ordering_then (nat_cmp x.0 y.0) (nat_cmp x.1 y.1)) exact_unsigned (exact_pairs nat_cmp nat_cmp exact_unsigned exact_unsigned)
    (a.master, (a.batch, a.index)) (b.master, (b.batch, b.index)) h)

le_then : (x y : ℕ) (o : Ordering) → is_gt (ordering_then (nat_cmp x y) o) ≡ false → (x < y) ⊎ ((x ≡ y) × (is_gt o ≡ false))
le_then x y o h =
    elim (leb_tells y x) [
      | inr low ↦ inl low.1
      | inl high ↦
          elim (eqb_tells x y) [
            | inl same ↦
                let e : nat_cmp x y ≡ Equal = rw (le-ltb x y high.1, same.0) refl in
                inr (same.1, ap (λ (c : Ordering). is_gt (ordering_then c o)) (sym e) ∙ h)
            | inr differ ↦
                let e : nat_cmp x y ≡ Greater = rw (le-ltb x y high.1, differ.0) refl in
                absurd (true≢false (ap (λ (c : Ordering). is_gt (ordering_then c o)) (sym e) ∙ h))
          ]
    ]

-- a record that isn't behind another is of an earlier master, or of the same and has no later batch
in_order : (a b : LiveRecord) → is_gt (live_cmp a b) ≡ false → (a.master < b.master) ⊎ ((a.master ≡ b.master) × (a.batch ≤ b.batch))
in_order a b h =
    elim (le_then a.master b.master (ordering_then (nat_cmp a.batch b.batch) (nat_cmp a.index b.index)) h) [
      | inl low ↦ inl low
      | inr same ↦ inr (same.0, elim (le_then a.batch b.batch (nat_cmp a.index b.index) same.1) [ inl low ↦ omega (arith, low) | inr t ↦ let e = t.0 in omega (arith, e) ])
    ]

zero_then : (y : ℕ) (o : Ordering) → is_gt o ≡ false → is_gt (ordering_then (nat_cmp 0 y) o) ≡ false
zero_then zero o h = h
zero_then (suc y) o h = rw (lt-ltb 0 (suc y) (omega arith)) refl

zero_last : (y : ℕ) → is_gt (nat_cmp 0 y) ≡ false
zero_last zero = refl
zero_last (suc y) = rw (lt-ltb 0 (suc y) (omega arith)) refl

abbrev pub start_of : ℕ → LiveRecord
start_of master = record { master = master; batch = 0; index = 0 }

from_start : (master : ℕ) (q : LiveRecord) → q.master ≡ master → is_gt (live_cmp (start_of master) q) ≡ false
from_start master q same =
    let e : nat_cmp master q.master ≡ Equal = rw (le-ltb master q.master (omega (arith, same)), eq-eqb master q.master (sym same)) refl in
    ap (λ (c : Ordering). is_gt (ordering_then c (ordering_then (nat_cmp 0 q.batch) (nat_cmp 0 q.index)))) e
    ∙ zero_then q.batch (nat_cmp 0 q.index) (zero_last q.index)

-- what the least of a range tells of the others
abbrev pub IsLeast : BTreeSet LiveRecord → ℕ → LiveRecord → Type 0
IsLeast live master k = (is_gt (live_cmp (start_of master) k) ≡ false) × ((q : LiveRecord) → is_gt (live_cmp (start_of master) q) ≡ false → contains live_cmp live q ≡ true → is_gt (live_cmp k q) ≡ false)

pub none_of : (live : BTreeSet LiveRecord) (master : ℕ) → ((q : LiveRecord) → is_gt (live_cmp (start_of master) q) ≡ false → contains live_cmp live q ≡ false) → (q : LiveRecord) → q.master ≡ master → contains live_cmp live q ≡ false
none_of live master none q same = none q (from_start master q same)

pub none_up_to : (live : BTreeSet LiveRecord) (master mark : ℕ) (k : LiveRecord) → IsLeast live master k → ((k.master ≢ master) ⊎ (mark < k.batch)) → (q : LiveRecord) → q.master ≡ master → q.batch ≤ mark → contains live_cmp live q ≡ false
none_up_to live master mark k least far q same low =
    elim (told (contains live_cmp live q)) [
      | inr off ↦ off
      | inl there ↦
          let after = least.1 q (from_start master q same) there in
          elim (in_order (start_of master) k least.0) [
            | inl lt ↦ elim (in_order k q after) [ inl lt2 ↦ absurd (omega (arith, lt, lt2, same)) | inr t ↦ absurd (let e = t.0 in omega (arith, lt, e, same)) ]
            | inr s ↦
                elim (in_order k q after) [
                  | inl lt2 ↦ absurd (let e = s.0 in omega (arith, e, lt2, same))
                  | inr t ↦ elim far [ inl differ ↦ absurd (differ (sym s.0)) | inr high ↦ absurd (let b = t.1 in omega (arith, b, high, low)) ]
                ]
          ]
    ]

-- ---- one record

pub at_entry : (q : LiveRecord) (e : Entry) → is_entry q e ≡ true → (e.live ≡ true) × ((e.index ≡ q.index) × (has_id q (id_in e.payload) ≡ true))
at_entry q e h =
    let a = both_true e.live ((e.index == q.index) && has_id q (id_in e.payload)) h in
    let b = both_true (e.index == q.index) (has_id q (id_in e.payload)) a.1 in
    (a.0, (eqb-true e.index q.index b.0, b.1))

pub id_tells : (q : LiveRecord) (o : Option (ℕ × ℕ)) → has_id q o ≡ true → o ≡ Some (q.master, q.batch)
id_tells q None h = absurd (true≢false (sym h))
id_tells q (Some id) h =
    let b = both_true (id.0 == q.master) (id.1 == q.batch) h in
    ap (λ (p : ℕ × ℕ). Some p) (λ i. (eqb-true id.0 q.master b.0 i, eqb-true id.1 q.batch b.1 i))

pub id_found : (q : LiveRecord) (o : Option (ℕ × ℕ)) → o ≡ Some (q.master, q.batch) → has_id q o ≡ true
id_found q o h = ap (has_id q) h ∙ rw (eq-eqb q.master q.master refl, eq-eqb q.batch q.batch refl) refl

pub live_entry : (q : LiveRecord) (e : Entry) → e.index ≡ q.index → has_id q (id_in e.payload) ≡ true → is_entry q e ≡ e.live
live_entry q e same has = rw (eq-eqb e.index q.index same, has) (and_with e.live)

-- ---- an empty log, and one record more

pub empty_listed : (live : BTreeSet LiveRecord) (l : Log) → live.keys ≡ [] → l ≡ empty_log → AreListed live l.entries
unfolding is_listed
empty_listed live l none is q = ap (λ (ks : List LiveRecord). list_any (is_at (live_cmp q)) ks) none ∙ sym (ap (λ (x : Log). is_listed q x.entries) is)

last_listed : (q : LiveRecord) (es : List Entry) (e : Entry) → is_listed q (es ++ (e ∷ [])) ≡ (is_entry q e || is_listed q es)
unfolding is_listed
last_listed q [] e = refl
last_listed q (x ∷ es) e = ap (λ (b : Bool). is_entry q x || b) (last_listed q es e) ∙ or_swap (is_entry q x) (is_entry q e) (is_listed q es)

pub appended_listed : (live new : BTreeSet LiveRecord) (l made : Log) (index : ℕ) (p : List ℕ) → AreListed live l.entries → made ≡ appended l p → index ≡ given_index l p
    → ((q : LiveRecord) → contains live_cmp new q ≡ noted_at q (contains live_cmp live q) index p) → AreListed new made.entries
unfolding appended
appended_listed live new l made index p all is at noted q =
    noted q
    ∙ ap (λ (b : Bool). ((index == q.index) && has_id q (id_in p)) || b) (all q)
    ∙ ap (λ (i : ℕ). ((i == q.index) && has_id q (id_in p)) || is_listed q l.entries) at
    ∙ sym (last_listed q l.entries (entry (given_index l p) true p))
    ∙ ap (λ (x : Log). is_listed q x.entries) (sym is)

-- ---- one record cancelled

gone_entry : (q : LiveRecord) (e : Entry) → is_entry q (without q.index e) ≡ false
gone_entry q e = elim (eqb_tells e.index q.index) [ inl t ↦ rw t.0 refl | inr t ↦ ap (is_entry q) (other q.index e t.1) ∙ rw t.0 (and_off e.live) ]

gone : (q : LiveRecord) (es : List Entry) → is_listed q (map (without q.index) es) ≡ false
unfolding is_listed
gone q [] = refl
gone q (e ∷ es) = rw (gone_entry q e, gone q es) refl

kept_entry : (q : LiveRecord) (k : ℕ) (e : Entry) → q.index ≢ k → is_entry q (without k e) ≡ is_entry q e
kept_entry q k e differ =
    elim (eqb_tells e.index k) [
      | inr t ↦ rw t.0 refl
      | inl t ↦
          elim (eqb_tells e.index q.index) [
            | inl s ↦ absurd (differ (sym s.1 ∙ t.1))
            | inr s ↦ rw (t.0, s.0) (sym (and_off e.live))
          ]
    ]

kept : (q : LiveRecord) (k : ℕ) (es : List Entry) → q.index ≢ k → is_listed q (map (without k) es) ≡ is_listed q es
unfolding is_listed
kept q k [] differ = refl
kept q k (e ∷ es) differ = rw (kept_entry q k e differ, kept q k es differ) refl

listed_above : (q : LiveRecord) (index : ℕ) (es : List Entry) (next : ℕ) → Rises index es next → is_listed q es ≡ true → index ≤ q.index
unfolding is_listed
listed_above q index [] next r h = absurd (true≢false (sym h))
listed_above q index (e ∷ es) next r h =
    elim (either (is_entry q e) (is_listed q es) h) [
      | inl here ↦ let same = (at_entry q e here).1.0 in omega (arith, same, r.0)
      | inr later ↦ let above = listed_above q (e.index + 1) es next r.1 later in omega (arith, above, r.0)
    ]

same_id : (a b : ℕ × ℕ) → Some a ≡ Some b → a ≡ b
same_id a b h = cc

-- an index is that of one record
unique : (q r : LiveRecord) (index : ℕ) (es : List Entry) (next : ℕ) → Rises index es next → is_listed q es ≡ true → is_listed r es ≡ true → q.index ≡ r.index → r ≡ q
unfolding is_listed
unique q r index [] next rises h g same = absurd (true≢false (sym h))
unique q r index (e ∷ es) next rises h g same =
    elim (either (is_entry q e) (is_listed q es) h) [
      | inl here ↦
          elim (either (is_entry r e) (is_listed r es) g) [
            | inl there ↦
                let a = id_tells q (id_in e.payload) (at_entry q e here).1.1 in
                let b = id_tells r (id_in e.payload) (at_entry r e there).1.1 in
                let ids = same_id (r.master, r.batch) (q.master, q.batch) (sym b ∙ a) in
                λ i. record { master = (ids i).0; batch = (ids i).1; index = sym same i }
            | inr later ↦ absurd (let at = (at_entry q e here).1.0 in let above = listed_above r (e.index + 1) es next rises.1 later in omega (arith, at, above, same))
          ]
      | inr later ↦
          elim (either (is_entry r e) (is_listed r es) g) [
            | inl there ↦ absurd (let at = (at_entry r e there).1.0 in let above = listed_above q (e.index + 1) es next rises.1 later in omega (arith, at, above, same))
            | inr also ↦ unique q r (e.index + 1) es next rises.1 later also same
          ]
    ]

itself : (q r : LiveRecord) → r ≡ q → eq_by_cmp live_cmp r q ≡ true
itself q r same = subst (λ (x : LiveRecord). eq_by_cmp live_cmp r x ≡ true) same ((eq_by_cmp_equiv live_total).refl r)

left_listed : (q r : LiveRecord) (l : Log) → IsLog l → is_listed r l.entries ≡ true → eq_by_cmp live_cmp r q ≡ false → is_listed q l.entries ≡ is_listed q (map (without r.index) l.entries)
left_listed q r l is there apart =
    elim (eqb_tells q.index r.index) [
      | inr t ↦ sym (kept q r.index l.entries t.1)
      | inl t ↦
          let none : is_listed q (map (without r.index) l.entries) ≡ false = ap (λ (k : ℕ). is_listed q (map (without k) l.entries)) (sym t.1) ∙ gone q l.entries in
          elim (told (is_listed q l.entries)) [
            | inl here ↦ absurd (true≢false (sym (itself q r (unique q r 1 l.entries l.next (log_rises l is) here there t.1)) ∙ apart))
            | inr off ↦ off ∙ sym none
          ]
    ]

by_same : (b was : Bool) (q r : LiveRecord) (l : Log) → IsLog l → is_listed r l.entries ≡ true → eq_by_cmp live_cmp r q ≡ b → was ≡ is_listed q l.entries → cond b false was ≡ is_listed q (map (without r.index) l.entries)
by_same true was q r l is there same before = sym (subst (λ (x : LiveRecord). is_listed x (map (without r.index) l.entries) ≡ false) (tells_apart exact_live r q same) (gone r l.entries))
by_same false was q r l is there apart before = before ∙ left_listed q r l is there apart

pub cancelled_listed : (live new : BTreeSet LiveRecord) (r : LiveRecord) (l made : Log) → IsLog l → AreListed live l.entries → contains live_cmp live r ≡ true → Updates live_cmp live new r false → made ≡ log.cancelled l r.index → AreListed new made.entries
unfolding log.cancelled
cancelled_listed live new r l made is all there up cancels q =
    up.0 q
    ∙ by_same (eq_by_cmp live_cmp r q) (contains live_cmp live q) q r l is (sym (all r) ∙ there) refl (all q)
    ∙ ap (λ (x : Log). is_listed q x.entries) (sym cancels)

live_listed : (q : LiveRecord) (es : List Entry) → is_listed q es ≡ true → is_live es q.index ≡ true
unfolding is_listed is_live
live_listed q [] h = absurd (true≢false (sym h))
live_listed q (e ∷ es) h =
    elim (either (is_entry q e) (is_listed q es) h) [
      | inl here ↦ let t = at_entry q e here in rw (t.0, eq-eqb e.index q.index t.1.0) refl
      | inr later ↦ rw (live_listed q es later) (or_true (e.live && eqb e.index q.index))
    ]

pub is_alive : (live : BTreeSet LiveRecord) (r : LiveRecord) (l : Log) → AreListed live l.entries → contains live_cmp live r ≡ true → is_live l.entries r.index ≡ true
is_alive live r l all there = live_listed r l.entries (sym (all r) ∙ there)

-- ---- what is left to cancel

abbrev log_with : ℕ → List Entry → Log
log_with next es = record { next = next; entries = es }

up_id : (r : LiveRecord) (master mark : ℕ) → r.master ≡ master → r.batch ≤ mark → is_up_to master mark (Some (r.master, r.batch)) ≡ true
up_id r master mark same low = rw (eq-eqb r.master master same, le-leb r.batch mark low) refl

done_entry : (master mark k : ℕ) (e : Entry) → e.index ≡ k → is_up_to master mark (id_in e.payload) ≡ true → without_done master mark (without k e) ≡ without_done master mark e
done_entry master mark k e same up = rw (eq-eqb e.index k same, up) refl

done_step : (r : LiveRecord) (master mark index : ℕ) (es : List Entry) (next : ℕ) → Rises index es next → is_listed r es ≡ true → r.master ≡ master → r.batch ≤ mark
    → map (without_done master mark) (map (without r.index) es) ≡ map (without_done master mark) es
unfolding is_listed
done_step r master mark index [] next rises h same low = refl
done_step r master mark index (e ∷ es) next rises h same low =
    elim (either (is_entry r e) (is_listed r es) h) [
      | inl here ↦
          let t = at_entry r e here in
          let up : is_up_to master mark (id_in e.payload) ≡ true = ap (is_up_to master mark) (id_tells r (id_in e.payload) t.1.1) ∙ up_id r master mark same low in
          let at = t.1.0 in
          let head = done_entry master mark r.index e at up in
          let rest = ap (λ (l : List Entry). map (without_done master mark) l) (untouched r.index (e.index + 1) es next rises.1 (omega (arith, at))) in
          λ i. head i ∷ rest i
      | inr later ↦
          let above = listed_above r (e.index + 1) es next rises.1 later in
          let head = ap (without_done master mark) (other r.index e (λ at. absurd (omega (arith, above, at)))) in
          let rest = done_step r master mark (e.index + 1) es next rises.1 later same low in
          λ i. head i ∷ rest i
    ]

pub done_one : (live : BTreeSet LiveRecord) (r : LiveRecord) (l made : Log) (master mark : ℕ) → IsLog l → AreListed live l.entries → contains live_cmp live r ≡ true → r.master ≡ master → r.batch ≤ mark → made ≡ log.cancelled l r.index
    → cancelled_log master mark made ≡ cancelled_log master mark l
unfolding log.cancelled
done_one live r l made master mark is all there same low cancels =
    ap (cancelled_log master mark) cancels
    ∙ ap (λ (es : List Entry). log_with l.next es) (done_step r master mark 1 l.entries l.next (log_rises l is) (sym (all r) ∙ there) same low)

up_tells : (master mark : ℕ) (o : Option (ℕ × ℕ)) → is_up_to master mark o ≡ true → (batch : ℕ) × ((o ≡ Some (master, batch)) × (batch ≤ mark))
up_tells master mark None h = absurd (true≢false (sym h))
up_tells master mark (Some id) h =
    let b = both_true (id.0 == master) (leb id.1 mark) h in
    (id.1, (ap (λ (p : ℕ × ℕ). Some p) (λ i. (eqb-true id.0 master b.0 i, id.1)), leb-true id.1 mark b.1))

idle : (master mark : ℕ) (e : Entry) → ((q : LiveRecord) → q.master ≡ master → q.batch ≤ mark → is_entry q e ≡ false) → without_done master mark e ≡ e
idle master mark e none =
    elim (told (is_up_to master mark (id_in e.payload))) [
      | inr off ↦ rw off refl
      | inl up ↦
          let t = up_tells master mark (id_in e.payload) up in
          let q : LiveRecord = record { master = master; batch = t.0; index = e.index } in
          let dead : e.live ≡ false = sym (live_entry q e refl (id_found q (id_in e.payload) t.1.0)) ∙ none q refl t.1.1 in
          rw up (ap (λ (b : Bool). entry e.index b e.payload) (sym dead))
    ]

all_idle : (master mark : ℕ) (es : List Entry) → ((q : LiveRecord) → q.master ≡ master → q.batch ≤ mark → is_listed q es ≡ false) → map (without_done master mark) es ≡ es
unfolding is_listed
all_idle master mark [] none = refl
all_idle master mark (e ∷ es) none =
    let head = idle master mark e (λ q same low. (neither (is_entry q e) (is_listed q es) (none q same low)).0) in
    let rest = all_idle master mark es (λ q same low. (neither (is_entry q e) (is_listed q es) (none q same low)).1) in
    λ i. head i ∷ rest i

pub none_done : (live : BTreeSet LiveRecord) (l : Log) (master mark : ℕ) → AreListed live l.entries → ((q : LiveRecord) → q.master ≡ master → q.batch ≤ mark → contains live_cmp live q ≡ false) → l ≡ cancelled_log master mark l
none_done live l master mark all none = ap (λ (es : List Entry). log_with l.next es) (sym (all_idle master mark l.entries (λ q same low. sym (all q) ∙ none q same low)))

-- ---- the index of a log, from one live record after another

-- whether one of the records from an index on
unfoldable pub listed_from : ℕ → LiveRecord → List Entry → Bool
listed_from from q [] = false
listed_from from q (e ∷ es) = (is_entry q e && leb from e.index) || listed_from from q es

all_listed : (from : ℕ) (q : LiveRecord) (index : ℕ) (es : List Entry) (next : ℕ) → Rises index es next → from ≤ index → listed_from from q es ≡ is_listed q es
unfolding listed_from is_listed
all_listed from q index [] next r low = refl
all_listed from q index (e ∷ es) next r low =
    let high : from ≤ e.index = omega (arith, low, r.0) in
    rw (le-leb from e.index high, and_with (is_entry q e), all_listed from q (e.index + 1) es next r.1 (omega (arith, high))) refl

none_listed : (from : ℕ) (q : LiveRecord) (es : List Entry) → first_live from es ≡ None → listed_from from q es ≡ false
unfolding first_live listed_from
none_listed from q [] h = refl
none_listed from q (e ∷ es) h =
    let no = none_first (e.live && leb from e.index) (e.index, e.payload) (first_live from es) h in
    rw (off_with e.live ((e.index == q.index) && has_id q (id_in e.payload)) (leb from e.index) no.0, none_listed from q es no.1) refl

next_listed : (from : ℕ) (q : LiveRecord) (index : ℕ) (es : List Entry) (next k : ℕ) (p : List ℕ) → Rises index es next → first_live from es ≡ Some (k, p)
    → listed_from from q es ≡ (((k == q.index) && has_id q (id_in p)) || listed_from (k + 1) q es)
unfolding first_live listed_from
next_listed from q index [] next k p r h = absurd (none-some (k, p) h)
next_listed from q index (e ∷ es) next k p r h =
    elim (some_first (e.live && leb from e.index) (e.index, e.payload) (k, p) (first_live from es) h) [
      | inl hit ↦
          let same : e.index ≡ k = ap (λ (x : ℕ × List ℕ). x.0) hit.1 in
          let bytes : e.payload ≡ p = ap (λ (x : ℕ × List ℕ). x.1) hit.1 in
          let b = both_true e.live (leb from e.index) hit.0 in
          let low = leb-true from e.index b.1 in
          let here = all_listed from q (e.index + 1) es next r.1 (omega (arith, low)) in
          let there = all_listed (k + 1) q (e.index + 1) es next r.1 (omega (arith, same)) in
          let first : (is_entry q e && leb from e.index) ≡ ((k == q.index) && has_id q (id_in p)) =
          rw (b.0, b.1) (and_with ((e.index == q.index) && has_id q (id_in e.payload)) ∙ (λ i. (same i == q.index) && has_id q (id_in (bytes i)))) in
          elim (leb_tells (k + 1) e.index) [
            | inl t ↦ absurd (let high = t.1 in omega (arith, high, same))
            | inr t ↦ rw (first, here, there, t.0, and_off (is_entry q e)) refl
          ]
      | inr miss ↦
          let f = found from (e.index + 1) es next k p r.1 miss.1 in
          let above = f.above in
          let off = off_with e.live ((e.index == q.index) && has_id q (id_in e.payload)) (leb from e.index) miss.0 in
          elim (leb_tells (k + 1) e.index) [
            | inl t ↦ absurd (let high = t.1 in omega (arith, high, above))
            | inr t ↦ rw (off, t.0, and_off (is_entry q e)) (next_listed from q (e.index + 1) es next k p r.1 miss.1)
          ]
    ]

-- the index has the records before an index, and those from it on are to come
abbrev pub GoesOn : BTreeSet LiveRecord → ℕ → Log → Type 0
GoesOn live from l = (q : LiveRecord) → (contains live_cmp live q || listed_from from q l.entries) ≡ is_listed q l.entries

pub begun : (live : BTreeSet LiveRecord) (l : Log) → IsLog l → live.keys ≡ [] → GoesOn live 0 l
begun live l is none q =
    ap (λ (ks : List LiveRecord). list_any (is_at (live_cmp q)) ks || listed_from 0 q l.entries) none
    ∙ all_listed 0 q 1 l.entries l.next (log_rises l is) (omega arith)

pub goes_on : (live new : BTreeSet LiveRecord) (from k : ℕ) (p : List ℕ) (l : Log) → IsLog l → first_live from l.entries ≡ Some (k, p) → ((q : LiveRecord) → contains live_cmp new q ≡ noted_at q (contains live_cmp live q) k p)
    → GoesOn live from l → GoesOn new (k + 1) l
goes_on live new from k p l is h noted before q =
    ap (λ (b : Bool). b || listed_from (k + 1) q l.entries) (noted q)
    ∙ or_move ((k == q.index) && has_id q (id_in p)) (contains live_cmp live q) (listed_from (k + 1) q l.entries)
    ∙ ap (λ (b : Bool). contains live_cmp live q || b) (sym (next_listed from q 1 l.entries l.next k p (log_rises l is) h))
    ∙ before q

pub ended : (live : BTreeSet LiveRecord) (from : ℕ) (l : Log) → first_live from l.entries ≡ None → GoesOn live from l → AreListed live l.entries
ended live from l h all q =
    sym (or_off (contains live_cmp live q))
    ∙ ap (λ (b : Bool). contains live_cmp live q || b) (sym (none_listed from q l.entries h))
    ∙ all q
