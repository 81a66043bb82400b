-- Walking and packing, over the records that are seen at their places.
use Rattle.std.proofs.Common.{◌≡◌, ℕ, zero, suc, ◌+◌, ◌*◌, ◌<◌, ◌≤◌, Bool, true, false, cond, ltb, leb, ◌&&◌, List, [], ◌∷◌, length, get_or, drop, map, All, Option, Some, None, Ok, Err, refl, sym, ap, subst, ◌∙◌, arith, inl, inr}
use Rattle.std.specs.Option.{option_map}
use Rattle.std.specs.List.Sorted.{IsNonDecreasingBy}
use Rattle.std.proofs.lemmas.Bool.{leb-true, le-leb, le-ltb}
use Rattle.std.proofs.lemmas.Bool.Decides.{leb_tells}
use Rattle.std.proofs.lemmas.List.{get_or-drop, length-drop, length-take, at_drop_more, at_drop_all}
use Rattle.llog_store.specs.declared.append.AppendFault.{AppendFault}
use Rattle.llog_store.specs.declared.append.AppendFault.TheVariants as fault
use Rattle.llog_store.specs.declared.place.Place.{Place}
use Rattle.llog_store.specs.Log.{Entry, Log, room, fits_in, record_size, Follows, live_count, log_text, IsLog, entry_end, empty_log}
use Rattle.llog_store.specs.Places.{places_of}
use Rattle.llog_store.specs.Kept.{IsKept, marked, first_marked, payload_in, seen, IsWithin, append_fault, Refuses, Packs}
use Rattle.llog_store.specs.Changes.{given_index, appended, all_appended, live_payloads, packed, repacked, first_live}
use Rattle.llog_store.proofs.Fitting.{either_fits, index_fits, index_behind}
use Rattle.llog_store.proofs.Seeing.{seen_kept, records_below}

-- ---- the indexes rise

index_low : (place index : ℕ) (es : List Entry) (next : ℕ) → Follows place index es next → (j : ℕ) (d : Place) → j < length (places_of place es) → index ≤ (get_or (places_of place es) j d).index
unfolding Follows places_of
index_low place index [] next f j d lt = absurd (omega arith)
index_low place index (e ∷ es) next f zero d lt =
    elim (either_fits place e) [
      | inl fit ↦ omega (arith, f.0, index_fits place index (record_size (length e.payload)) fit)
      | inr off ↦ omega (arith, f.0, index_behind place index (record_size (length e.payload)) off)
    ]
index_low place index (e ∷ es) next f (suc j) d lt =
    let later = index_low (entry_end place e) (e.index + 1) es next f.2 j d (omega arith) in
    elim (either_fits place e) [
      | inl fit ↦ omega (arith, later, f.0, index_fits place index (record_size (length e.payload)) fit)
      | inr off ↦ omega (arith, later, f.0, index_behind place index (record_size (length e.payload)) off)
    ]

rising : (place index : ℕ) (es : List Entry) (next : ℕ) → Follows place index es next → (i j : ℕ) (d : Place) → i ≤ j → j < length (places_of place es) → (get_or (places_of place es) i d).index ≤ (get_or (places_of place es) j d).index
unfolding Follows places_of
rising place index [] next f i j d le lt = absurd (omega arith)
rising place index (e ∷ es) next f zero zero d le lt = omega arith
rising place index (e ∷ es) next f zero (suc j) d le lt =
    let later = index_low (entry_end place e) (e.index + 1) es next f.2 j d (omega arith) in omega (arith, later)
rising place index (e ∷ es) next f (suc i) zero d le lt = absurd (omega arith)
rising place index (e ∷ es) next f (suc i) (suc j) d le lt = rising (entry_end place e) (e.index + 1) es next f.2 i j d (omega arith) (omega arith)

pub rising_kept : (log : Log) (bytes : List ℕ) (places : List Place) (next live : ℕ) → IsKept log bytes places next live → IsNonDecreasingBy (λ (p : Place). p.index) places
rising_kept log bytes places next live k =
    subst (λ (ps : List Place). IsNonDecreasingBy (λ (p : Place). p.index) ps) (sym k.places_are) (λ i j d le lt. rising 32768 1 log.entries log.next k.is.follows i j d le lt)

-- ---- walk

abbrev pub shown : List ℕ → Place → ℕ × List ℕ
shown bytes p = (p.index, payload_in bytes p)

found_step : (bytes : List ℕ) (from : ℕ) (p : Place) (ps : List Place) (b : Bool) → option_map (shown bytes) (first_marked bytes ps) ≡ first_live from (map (seen bytes) ps)
    → option_map (shown bytes) (cond b (Some p) (first_marked bytes ps)) ≡ cond (b && true) (Some (shown bytes p)) (first_live from (map (seen bytes) ps))
found_step bytes from p ps true h = refl
found_step bytes from p ps false h = h

passed : (b : Bool) (x y : Option (ℕ × List ℕ)) → y ≡ cond (b && false) x y
passed true x y = refl
passed false x y = refl

not_high : (a b : ℕ) → b < a → leb a b ≡ false
not_high a b lt = elim (leb_tells a b) [ inl h ↦ absurd (let le = h.1 in omega arith) | inr h ↦ h.0 ]

found_first : (bytes : List ℕ) (from : ℕ) (ps : List Place) → ((k : ℕ) (d : Place) → k < length ps → from ≤ (get_or ps k d).index) → option_map (shown bytes) (first_marked bytes ps) ≡ first_live from (map (seen bytes) ps)
unfolding first_marked first_live
found_first bytes from [] h = refl
found_first bytes from (p ∷ ps) h =
    let high : leb from p.index ≡ true = le-leb from p.index (h 0 p (omega arith)) in
    let rest = found_first bytes from ps (λ k d lt. h (suc k) d (omega arith)) in
    rw high (found_step bytes from p ps (marked bytes p.index) rest)

skipped : (bytes : List ℕ) (from : ℕ) (ps : List Place) (j : ℕ) → ((k : ℕ) (d : Place) → k < j → (get_or ps k d).index < from) → j ≤ length ps → first_live from (map (seen bytes) (drop j ps)) ≡ first_live from (map (seen bytes) ps)
unfolding first_live
skipped bytes from ps zero h le = refl
skipped bytes from [] (suc j) h le = absurd (omega arith)
skipped bytes from (p ∷ ps) (suc j) h le =
    let low : leb from p.index ≡ false = not_high from p.index (h 0 p (omega arith)) in
    let rest = skipped bytes from ps j (λ k d lt. h (suc k) d (omega arith)) (omega arith) in
    rw low (rest ∙ passed (marked bytes p.index) _ _)

pub walked : (log : Log) (bytes : List ℕ) (places : List Place) (next live from first : ℕ) → IsKept log bytes places next live → first ≤ length places → ((k : ℕ) (d : Place) → k < first → (get_or places k d).index < from) → ((k : ℕ) (d : Place) → first ≤ k → k < length places → from ≤ (get_or places k d).index)
    → option_map (shown bytes) (first_marked bytes (drop first places)) ≡ first_live from log.entries
walked log bytes places next live from first k le before after =
    found_first bytes from (drop first places) (λ i d lt. rw (get_or-drop first places i d) (after (first + i) d (omega arith) (omega (arith, length-drop first places))))
    ∙ skipped bytes from places first before le
    ∙ ap (λ (es : List Entry). first_live from es) (seen_kept log bytes places next live k)

found_cases : (len : ℕ) (q p : Place) (b : Bool) (o : Option Place) → cond b (Some q) o ≡ Some p → IsWithin len q → (o ≡ Some p → IsWithin len p) → IsWithin len p
found_cases len q p true o e here later = let some : Some q ≡ Some p = e in let same : q ≡ p = cc in subst (IsWithin len) same here
found_cases len q p false o e here later = later e

pub found_within : (bytes : List ℕ) (len : ℕ) (ps : List Place) (p : Place) → first_marked bytes ps ≡ Some p → ((k : ℕ) (d : Place) → k < length ps → IsWithin len (get_or ps k d)) → IsWithin len p
unfolding first_marked
found_within bytes len [] p e h = absurd cc
found_within bytes len (q ∷ ps) p e h = found_cases len q p (marked bytes q.index) (first_marked bytes ps) e (h 0 q (omega arith)) (λ (e2 : first_marked bytes ps ≡ Some p). found_within bytes len ps p e2 (λ k d lt. h (suc k) d (omega arith)))

pub within_drop : (len first : ℕ) (places : List Place) → All (IsWithin len) places → first ≤ length places → (k : ℕ) (d : Place) → k < length (drop first places) → IsWithin len (get_or (drop first places) k d)
within_drop len first places h le k d lt = rw (get_or-drop first places k d) (h (first + k) d (omega (arith, length-drop first places)))

-- ---- pack

one_cases : (b : Bool) (n : ℕ) → (n ≤ cond b n (n + 1)) × (cond b n (n + 1) ≤ n + 1)
one_cases true n = (omega arith, omega arith)
one_cases false n = (omega arith, omega arith)

next_one : (log : Log) (p : List ℕ) → (log.next + 1 ≤ (appended log p).next) × ((appended log p).next ≤ log.next + 2)
unfolding appended
next_one log p =
    let c = one_cases (fits_in (room (length (log_text log))) (record_size (length p))) log.next in
    (omega (arith, c.0), omega (arith, c.1))

pub next_more : (log : Log) (ps : List (List ℕ)) → log.next ≤ (all_appended log ps).next
unfolding all_appended
next_more log [] = omega arith
next_more log (p ∷ ps) = let later = next_more (appended log p) ps in let one = next_one log p in omega (arith, later, one.0)

pub next_most : (log : Log) (ps : List (List ℕ)) → (all_appended log ps).next ≤ log.next + 2 * length ps
unfolding all_appended
next_most log [] = omega arith
next_most log (p ∷ ps) = let later = next_most (appended log p) ps in let one = next_one log p in omega (arith, later, one.1)

payloads_step : (b : Bool) (p : List ℕ) (ps : List (List ℕ)) (n : ℕ) → length ps ≡ n → length (cond b (p ∷ ps) ps) ≡ cond b 1 0 + n
payloads_step true p ps n h = omega (arith, h)
payloads_step false p ps n h = omega (arith, h)

payloads_count : (es : List Entry) → length (live_payloads es) ≡ live_count es
unfolding live_payloads live_count
payloads_count [] = refl
payloads_count (e ∷ es) = payloads_step e.live e.payload (live_payloads es) (live_count es) (payloads_count es)

pub half_packs : (log : Log) → IsLog log → 2 * live_count log.entries ≤ length log.entries → (packed log).next ≤ 256000
half_packs log is half =
    let most = next_most empty_log (live_payloads log.entries) in
    let count = payloads_count log.entries in
    let few = records_below 32768 1 log.entries log.next is.follows in
    let high = is.next in
    omega (arith, most, count, few)

full_cases : (o : Option AppendFault) (n : ℕ) → Refuses {X = ℕ} o (Err (fault.Full n)) → o ≡ Some (fault.Full n)
full_cases None n r = absurd r
full_cases (Some f) n r = cc

long_cases : (o : Option AppendFault) (n : ℕ) → Refuses {X = ℕ} o (Err (fault.TooLong n)) → o ≡ Some (fault.TooLong n)
long_cases None n r = absurd r
long_cases (Some f) n r = cc

none_cases : (o : Option AppendFault) (i : ℕ) → Refuses {X = ℕ} o (Ok i) → o ≡ None
none_cases None i r = refl
none_cases (Some f) i r = absurd cc

full_tests : (long high : Bool) (len next n : ℕ) → cond long (Some (fault.TooLong len)) (cond high (Some (fault.Full next)) None) ≡ Some (fault.Full n) → {P : Type 0} → (high ≡ true → P) → P
full_tests true high len next n e h = absurd (let bad : Some (fault.TooLong len) ≡ Some (fault.Full n) = e in cc)
full_tests false true len next n e h = h refl
full_tests false false len next n e h = absurd (let bad : None ≡ Some (fault.Full n) = e in cc)

long_tests : (long high : Bool) (len next n : ℕ) → long ≡ false → cond long (Some (fault.TooLong len)) (cond high (Some (fault.Full next)) None) ≡ Some (fault.TooLong n) → ⊥
long_tests true high len next n off e = absurd cc
long_tests false true len next n off e = let bad : Some (fault.Full next) ≡ Some (fault.TooLong n) = e in absurd cc
long_tests false false len next n off e = let bad : None ≡ Some (fault.TooLong n) = e in absurd cc

none_tests : (long : Bool) (len next index : ℕ) → cond long (Some (fault.TooLong len)) (cond (leb 256000 index) (Some (fault.Full next)) None) ≡ None → index + 1 ≤ 256000
none_tests true len next index e = absurd (let bad : Some (fault.TooLong len) ≡ None = e in cc)
none_tests false len next index e =
    elim (leb_tells 256000 index) [
      | inl h ↦ absurd (let bad : Some (fault.Full next) ≡ None = sym (rw h.0 refl) ∙ e in cc)
      | inr h ↦ let lt = h.1 in omega arith
    ]

-- what each answer of append says of the index
pub full_index : (log : Log) (payload : List ℕ) (n : ℕ) → Refuses {X = ℕ} (append_fault log payload) (Err (fault.Full n)) → 256000 ≤ given_index log payload
unfolding append_fault
full_index log payload n r = full_tests (ltb 24576 (length payload)) (leb 256000 (given_index log payload)) (length payload) log.next n (full_cases _ n r) (leb-true 256000 (given_index log payload))

pub not_long : (log : Log) (payload : List ℕ) (n : ℕ) → length payload ≤ 24576 → Refuses {X = ℕ} (append_fault log payload) (Err (fault.TooLong n)) → ⊥
unfolding append_fault
not_long log payload n small r =
    let off : ltb 24576 (length payload) ≡ false = le-ltb _ _ small in
    long_tests (ltb 24576 (length payload)) (leb 256000 (given_index log payload)) (length payload) log.next n off (long_cases _ n r)

pub none_index : (log : Log) (payload : List ℕ) (i : ℕ) → Refuses {X = ℕ} (append_fault log payload) (Ok i) → (appended log payload).next ≤ 256000
unfolding append_fault appended
none_index log payload i r = none_tests (ltb 24576 (length payload)) (length payload) log.next (given_index log payload) (none_cases _ i r)

-- one record seen
pub payload_more : (bytes : List ℕ) (p : Place) (ps : List Place) → marked bytes p.index ≡ true → live_payloads (map (seen bytes) (p ∷ ps)) ≡ payload_in bytes p ∷ live_payloads (map (seen bytes) ps)
unfolding live_payloads
payload_more bytes p ps h = rw h refl

pub payload_none : (bytes : List ℕ) (p : Place) (ps : List Place) → marked bytes p.index ≡ false → live_payloads (map (seen bytes) (p ∷ ps)) ≡ live_payloads (map (seen bytes) ps)
unfolding live_payloads
payload_none bytes p ps h = rw h refl

pub all_more : (log : Log) (p : List ℕ) (ps : List (List ℕ)) → all_appended log (p ∷ ps) ≡ all_appended (appended log p) ps
unfolding all_appended
all_more log p ps = refl

pub all_none : (log : Log) → all_appended log [] ≡ log
unfolding all_appended
all_none log = refl

-- one place more
pub step_live : (bytes : List ℕ) (places : List Place) (i : ℕ) (log target : Log) (payload : List ℕ) → i < length places → true ≡ marked bytes (get_or places i (record { index = 0; at = 0; length = 0 })).index → payload ≡ payload_in bytes (get_or places i (record { index = 0; at = 0; length = 0 }))
    → all_appended log (live_payloads (map (seen bytes) (drop i places))) ≡ target → all_appended (appended log payload) (live_payloads (map (seen bytes) (drop (i + 1) places))) ≡ target
step_live bytes places i log target payload lt live is so_far =
    let p : Place = get_or places i (record { index = 0; at = 0; length = 0 }) in
    let rest = drop (i + 1) places in
    let split : live_payloads (map (seen bytes) (drop i places)) ≡ payload ∷ live_payloads (map (seen bytes) rest) =
    at_drop_more (λ (ps : List Place). live_payloads (map (seen bytes) ps)) places i (record { index = 0; at = 0; length = 0 }) lt ∙ payload_more bytes p rest (sym live) ∙ ap (λ (x : List ℕ). x ∷ live_payloads (map (seen bytes) rest)) (sym is) in
    sym (ap (λ (ps : List (List ℕ)). all_appended log ps) split ∙ all_more log payload (live_payloads (map (seen bytes) rest))) ∙ so_far

pub step_dead : (bytes : List ℕ) (places : List Place) (i : ℕ) (log target : Log) → i < length places → false ≡ marked bytes (get_or places i (record { index = 0; at = 0; length = 0 })).index
    → all_appended log (live_payloads (map (seen bytes) (drop i places))) ≡ target → all_appended log (live_payloads (map (seen bytes) (drop (i + 1) places))) ≡ target
step_dead bytes places i log target lt dead so_far =
    let p : Place = get_or places i (record { index = 0; at = 0; length = 0 }) in
    let rest = drop (i + 1) places in
    let split : live_payloads (map (seen bytes) (drop i places)) ≡ live_payloads (map (seen bytes) rest) =
    at_drop_more (λ (ps : List Place). live_payloads (map (seen bytes) ps)) places i (record { index = 0; at = 0; length = 0 }) lt ∙ payload_none bytes p rest (sym dead) in
    sym (ap (λ (ps : List (List ℕ)). all_appended log ps) split) ∙ so_far

pub step_full : (bytes : List ℕ) (places : List Place) (i : ℕ) (log target : Log) (payload : List ℕ) (n : ℕ) → i < length places → true ≡ marked bytes (get_or places i (record { index = 0; at = 0; length = 0 })).index → payload ≡ payload_in bytes (get_or places i (record { index = 0; at = 0; length = 0 }))
    → all_appended log (live_payloads (map (seen bytes) (drop i places))) ≡ target → Refuses {X = ℕ} (append_fault log payload) (Err (fault.Full n)) → 256000 < target.next
unfolding appended
step_full bytes places i log target payload n lt live is so_far full =
    let e = step_live bytes places i log target payload lt live is so_far in
    let more = next_more (appended log payload) (live_payloads (map (seen bytes) (drop (i + 1) places))) in
    let next : (all_appended (appended log payload) (live_payloads (map (seen bytes) (drop (i + 1) places)))).next ≡ target.next = ap (λ (l : Log). l.next) e in
    omega (arith, more, next, full_index log payload n full)

pub step_end : (bytes : List ℕ) (places : List Place) (i : ℕ) (log target : Log) → length places ≤ i → all_appended log (live_payloads (map (seen bytes) (drop i places))) ≡ target → log ≡ target
unfolding live_payloads
step_end bytes places i log target le so_far =
    let none : live_payloads (map (seen bytes) (drop i places)) ≡ [] = at_drop_all (λ (ps : List Place). live_payloads (map (seen bytes) ps)) places i le in
    sym (all_none log) ∙ sym (ap (λ (ps : List (List ℕ)). all_appended log ps) none) ∙ so_far

pub wanted_is : (log : Log) (bytes bytes2 : List ℕ) (places places2 : List Place) (next live : ℕ) → IsKept log bytes places next live → bytes2 ≡ bytes → places2 ≡ places → all_appended empty_log (live_payloads (map (seen bytes2) places2)) ≡ packed log
wanted_is log bytes bytes2 places places2 next live k b p =
    rw (b, p) (ap (λ (es : List Entry). all_appended empty_log (live_payloads es)) (seen_kept log bytes places next live k))

pub pack_some : (log made wanted : Log) (o : Option Log) → wanted ≡ packed log → o ≡ Some made → Packs o wanted → made ≡ repacked log
pack_some log made wanted None is some p = absurd cc
pack_some log made wanted (Some m) is some p =
    let same : m ≡ made = cc in
    let low : (packed log).next ≤ 256000 = subst (λ (n : ℕ). n ≤ 256000) (ap (λ (l : Log). l.next) (p.0 ∙ is)) p.1 in
    let yes : leb (packed log).next 256000 ≡ true = le-leb _ _ low in
    sym same ∙ p.0 ∙ is ∙ sym (rw yes refl)

pub pack_none : (log wanted : Log) (o : Option Log) → wanted ≡ packed log → o ≡ None → Packs o wanted → log ≡ repacked log
pack_none log wanted (Some m) is none p = absurd cc
pack_none log wanted None is none p =
    let high : 256000 < (packed log).next = subst (λ (l : Log). 256000 < l.next) is p in
    let no : leb (packed log).next 256000 ≡ false = not_high _ _ high in
    sym (rw no refl)

pub payload_small : (bytes : List ℕ) (p : Place) (payload : List ℕ) → payload ≡ payload_in bytes p → p.length ≤ 24576 → length payload ≤ 24576
payload_small bytes p payload is small = omega (arith, ap length is, length-take p.length (drop (p.at + 24) bytes))
