-- Walking a log by its indexes passes each of its live records, once and in order.
use Rattle.std.proofs.Common.{◌≡◌, ℕ, suc, ◌+◌, ◌≤◌, Bool, true, false, nat_le, ◌&&◌, if◌then◌else◌, List, [], ◌∷◌, ◌++◌, map, length, Option, Some, refl, sym, ap, ap₂, ◌∙◌, arith, append_assoc}
use Rattle.std.proofs.lemmas.Bool.Decides.{nat_tests}
use Rattle.llog_store.specs.Log.{Entry, Log, IsLog, Follows, live_count, fits_in, room, record_size, entry_end}
use Rattle.llog_store.specs.Changes.{first_live, live_payloads}
use Rattle.update_recovery.specs.Live.{then_live, live_from, live_records}

-- indexes rise from one on
abbrev Rises : ℕ → List Entry → Type 0
Rises from [] = Unit {0}
Rises from (e ∷ es) = (from ≤ e.index) × Rises (e.index + 1) es

lower : (a b : ℕ) (es : List Entry) → a ≤ b → Rises b es → Rises a es
lower a b [] le r = tt
lower a b (e ∷ es) le r = (let h = r.0 in omega (arith, le, h), r.1)

at_least : (fits : Bool) (index : ℕ) → index ≤ (if fits then index else index + 1)
at_least true index = omega arith
at_least false index = omega arith

follows_rises : (es : List Entry) (place index next : ℕ) → Follows place index es next → Rises index es
unfolding Follows
follows_rises [] place index next f = tt
follows_rises (e ∷ es) place index next f = (
  let h = at_least (fits_in (room place) (record_size (length e.payload))) index in let is = f.0 in omega (arith, h, is),
  follows_rises es (entry_end place e) (e.index + 1) next f.2,
)

-- none of these is found from an index on
abbrev Passed : ℕ → List Entry → Type 0
Passed from [] = Unit {0}
Passed from (e ∷ es) = ((e.live && nat_le from e.index) ≡ false) × Passed from es

passed_first : (from : ℕ) (pre rest : List Entry) → Passed from pre → first_live from (pre ++ rest) ≡ first_live from rest
unfolding first_live
passed_first from [] rest p = refl
passed_first from (e ∷ es) rest p = ap (λ (b : Bool). if b then Some (e.index, e.payload) else first_live from (es ++ rest)) p.0 ∙ passed_first from es rest p.1

passed_push : (from : ℕ) (pre : List Entry) (e : Entry) → Passed from pre → (e.live && nat_le from e.index) ≡ false → Passed from (pre ++ e ∷ [])
passed_push from [] e p none = (none, tt)
passed_push from (x ∷ xs) e p none = (p.0, passed_push from xs e p.1 none)

no_more : (live : Bool) (a b index : ℕ) → a ≤ b → (live && nat_le a index) ≡ false → (live && nat_le b index) ≡ false
no_more true a b index le none = grind (arith, nat_tests)
no_more false a b index le none = refl

passed_on : (a b : ℕ) (es : List Entry) → a ≤ b → Passed a es → Passed b es
passed_on a b [] le p = tt
passed_on a b (e ∷ es) le p = (no_more e.live a b e.index le p.0, passed_on a b es le p.1)

found_here : (from : ℕ) (e : Entry) (es : List Entry) → e.live ≡ true → from ≤ e.index → first_live from (e ∷ es) ≡ Some (e.index, e.payload)
unfolding first_live
found_here from e es live low =
    ap (λ (b : Bool). if b && nat_le from e.index then Some (e.index, e.payload) else first_live from es) live
    ∙ ap (λ (b : Bool). if b then Some (e.index, e.payload) else first_live from es) (let t : nat_le from e.index ≡ true = grind (arith, nat_tests) in t)

none_with : (live b : Bool) → b ≡ false → (live && b) ≡ false
none_with true b is = is
none_with false b is = refl

behind : (e : Entry) → (e.live && nat_le (e.index + 1) e.index) ≡ false
behind e = none_with e.live (nat_le (e.index + 1) e.index) (grind (arith, nat_tests))

not_live : (live b : Bool) → live ≡ false → (live && b) ≡ false
not_live live b is = ap (λ x. x && b) is

-- from an index on, the live ones of the rest are walked, where none before them is found
abbrev Walks : ℕ → List Entry → List Entry → Type 0
Walks from pre rest = map (λ (x : ℕ × List ℕ). x.1) (live_from (live_count rest) from (pre ++ rest)) ≡ live_payloads rest

one_dead : (from : ℕ) (pre : List Entry) (e : Entry) (rs : List Entry) → e.live ≡ false → Walks from (pre ++ e ∷ []) rs → Walks from pre (e ∷ rs)
unfolding live_count live_payloads
one_dead from pre e rs dead w =
    let count : (if e.live then 1 else 0) + live_count rs ≡ live_count rs = ap (λ (b : Bool). (if b then 1 else 0) + live_count rs) dead ∙ omega arith in
    ap₂ (λ (n : ℕ) (es : List Entry). map (λ (x : ℕ × List ℕ). x.1) (live_from n from es)) count (sym (append_assoc pre (e ∷ []) rs))
    ∙ w ∙ sym (ap (λ (b : Bool). if b then e.payload ∷ live_payloads rs else live_payloads rs) dead)

one_live : (from : ℕ) (pre : List Entry) (e : Entry) (rs : List Entry) → e.live ≡ true → Passed from pre → from ≤ e.index → Walks (e.index + 1) (pre ++ e ∷ []) rs → Walks from pre (e ∷ rs)
unfolding live_count live_payloads live_from
one_live from pre e rs live p low w =
    let es = pre ++ e ∷ rs in
    let count : (if e.live then 1 else 0) + live_count rs ≡ suc (live_count rs) = ap (λ (b : Bool). (if b then 1 else 0) + live_count rs) live ∙ omega arith in
    let first : first_live from es ≡ Some (e.index, e.payload) = passed_first from pre (e ∷ rs) p ∙ found_here from e rs live low in
    ap (λ (n : ℕ). map (λ (x : ℕ × List ℕ). x.1) (live_from n from es)) count
    ∙ ap (λ (o : Option (ℕ × List ℕ)). map (λ (x : ℕ × List ℕ). x.1) (then_live o (λ next. live_from (live_count rs) next es))) first
    ∙ ap (λ (xs : List Entry). e.payload ∷ map (λ (x : ℕ × List ℕ). x.1) (live_from (live_count rs) (e.index + 1) xs)) (sym (append_assoc pre (e ∷ []) rs))
    ∙ ap (λ (ps : List (List ℕ)). e.payload ∷ ps) w
    ∙ sym (ap (λ (b : Bool). if b then e.payload ∷ live_payloads rs else live_payloads rs) live)

one : (b : Bool) (from : ℕ) (pre : List Entry) (e : Entry) (rs : List Entry) → e.live ≡ b → Passed from pre → from ≤ e.index → Rises (e.index + 1) rs
    → ((f : ℕ) (q : List Entry) → Passed f q → Rises f rs → Walks f q rs) → Walks from pre (e ∷ rs)
one true from pre e rs is p low r more =
    one_live from pre e rs is p low (more (e.index + 1) (pre ++ e ∷ []) (passed_push (e.index + 1) pre e (passed_on from (e.index + 1) pre (omega (arith, low)) p) (behind e)) r)
one false from pre e rs is p low r more =
    one_dead from pre e rs is (more from (pre ++ e ∷ []) (passed_push from pre e p (not_live e.live (nat_le from e.index) is)) (lower from (e.index + 1) rs (omega (arith, low)) r))

walked : (rest : List Entry) (from : ℕ) (pre : List Entry) → Passed from pre → Rises from rest → Walks from pre rest
unfolding live_count live_payloads live_from
walked [] from pre p r = refl
walked (e ∷ rs) from pre p r = one e.live from pre e rs refl p r.0 r.1 (walked rs)

pub all_walked : (log : Log) → IsLog log → map (λ (x : ℕ × List ℕ). x.1) (live_records log.entries) ≡ live_payloads log.entries
all_walked log is = walked log.entries 1 [] tt (follows_rises log.entries 32768 1 log.next is.follows)
