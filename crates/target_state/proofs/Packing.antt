-- Packing a log: one live record after another is appended to an empty one.
use Rattle.std.proofs.Common.{◌≡◌, ℕ, ◌+◌, ◌<◌, ◌≤◌, true, nat_le, ◌&&◌, if◌then◌else◌, List, [], ◌∷◌, length, Some, None, Err, refl, sym, ap, subst, ◌∙◌, arith, inl, inr, leb}
use Rattle.std.proofs.lemmas.Bool.{leb-true, le-leb}
use Rattle.std.proofs.lemmas.Bool.Decides.{leb_tells}
use Rattle.std.proofs.lemmas.Option.{none-some}
use Rattle.llog_store.specs.declared.append.AppendFault.TheVariants as fault
use Rattle.llog_store.specs.Log.{Entry, Log, IsLog, empty_log, entry_end, Follows}
use Rattle.llog_store.specs.Kept.{append_fault, Refuses}
use Rattle.llog_store.specs.Changes.{appended, all_appended, live_payloads, first_live, packed}
use Rattle.llog_store.proofs.Passing.{next_more, all_more, all_none, full_index}
use Rattle.target_state.proofs.Cancelling.{Rises, log_rises, none_first, some_first, found, both_true}
use Rattle.target_state.proofs.Indexing.{and_with, and_off}

-- ---- the payloads of the live records from an index on

unfoldable pub live_from : ℕ → List Entry → List (List ℕ)
live_from from [] = []
live_from from (e ∷ es) = if e.live && nat_le from e.index then e.payload ∷ live_from from es else live_from from es

-- behind an index all are there
all_from : (from index : ℕ) (es : List Entry) (next : ℕ) → Rises index es next → from ≤ index → live_from from es ≡ live_payloads es
unfolding live_from live_payloads
all_from from index [] next r low = refl
all_from from index (e ∷ es) next r low =
    let high : from ≤ e.index = omega (arith, low, r.0) in
    rw (le-leb from e.index high, and_with e.live, all_from from (e.index + 1) es next r.1 (omega (arith, high))) refl

none_from : (from : ℕ) (es : List Entry) → first_live from es ≡ None → live_from from es ≡ []
unfolding first_live live_from
none_from from [] h = refl
none_from from (e ∷ es) h =
    let no = none_first (e.live && leb from e.index) (e.index, e.payload) (first_live from es) h in
    rw (no.0, none_from from es no.1) refl

next_from : (from index : ℕ) (es : List Entry) (next k : ℕ) (p : List ℕ) → Rises index es next → first_live from es ≡ Some (k, p) → live_from from es ≡ p ∷ live_from (k + 1) es
unfolding first_live live_from
next_from from index [] next k p r h = absurd (none-some (k, p) h)
next_from from index (e ∷ es) next k p r h =
    elim (some_first (e.live && leb from e.index) (e.index, e.payload) (k, p) (first_live from es) h) [
      | inl hit ↦
          let same : e.index ≡ k = ap (λ (x : ℕ × List ℕ). x.0) hit.1 in
          let bytes : e.payload ≡ p = ap (λ (x : ℕ × List ℕ). x.1) hit.1 in
          let low = leb-true from e.index (both_true e.live (leb from e.index) hit.0).1 in
          let here = all_from from (e.index + 1) es next r.1 (omega (arith, low)) in
          let there = all_from (k + 1) (e.index + 1) es next r.1 (omega (arith, same)) in
          elim (leb_tells (k + 1) e.index) [
            | inl t ↦ absurd (let high = t.1 in omega (arith, high, same))
            | inr t ↦ rw (hit.0, t.0, and_off e.live, here, there, bytes) refl
          ]
      | inr miss ↦
          let f = found from (e.index + 1) es next k p r.1 miss.1 in
          let above = f.above in
          elim (leb_tells (k + 1) e.index) [
            | inl t ↦ absurd (let high = t.1 in omega (arith, high, above))
            | inr t ↦ rw (miss.0, t.0, and_off e.live) (next_from from (e.index + 1) es next k p r.1 miss.1)
          ]
    ]

-- ---- one appended behind the other

short : (from place index : ℕ) (es : List Entry) (next k : ℕ) (p : List ℕ) → Follows place index es next → first_live from es ≡ Some (k, p) → length p ≤ 24576
unfolding Follows first_live
short from place index [] next k p f h = absurd (none-some (k, p) h)
short from place index (e ∷ es) next k p f h =
    elim (some_first (e.live && leb from e.index) (e.index, e.payload) (k, p) (first_live from es) h) [
      | inl hit ↦ subst (λ (bytes : List ℕ). length bytes ≤ 24576) (ap (λ (x : ℕ × List ℕ). x.1) hit.1) f.1
      | inr miss ↦ short from (entry_end place e) (e.index + 1) es next k p f.2 miss.1
    ]

pub is_short : (from k : ℕ) (p : List ℕ) (l : Log) → IsLog l → first_live from l.entries ≡ Some (k, p) → length p ≤ 24576
is_short from k p l is h = short from 32768 1 l.entries l.next k p is.follows h

-- a log with the records from an index on is the packed one
abbrev pub PacksOn : Log → ℕ → Log → Type 0
PacksOn made from l = all_appended made (live_from from l.entries) ≡ packed l

pub begun : (made l : Log) → IsLog l → made ≡ empty_log → PacksOn made 0 l
begun made l is empty =
    ap (λ (x : Log). all_appended x (live_from 0 l.entries)) empty
    ∙ ap (λ (ps : List (List ℕ)). all_appended empty_log ps) (all_from 0 1 l.entries l.next (log_rises l is) (omega arith))

one_more : (made : Log) (from k : ℕ) (p : List ℕ) (l : Log) → IsLog l → first_live from l.entries ≡ Some (k, p) → PacksOn made from l → all_appended (appended made p) (live_from (k + 1) l.entries) ≡ packed l
one_more made from k p l is h before =
    sym (ap (λ (ps : List (List ℕ)). all_appended made ps) (next_from from 1 l.entries l.next k p (log_rises l is) h) ∙ all_more made p (live_from (k + 1) l.entries)) ∙ before

pub goes_on : (made new : Log) (from k : ℕ) (p : List ℕ) (l : Log) → IsLog l → first_live from l.entries ≡ Some (k, p) → new ≡ appended made p → PacksOn made from l → PacksOn new (k + 1) l
goes_on made new from k p l is h more before = ap (λ (x : Log). all_appended x (live_from (k + 1) l.entries)) more ∙ one_more made from k p l is h before

pub is_full : (made : Log) (from k n : ℕ) (p : List ℕ) (l : Log) → IsLog l → first_live from l.entries ≡ Some (k, p) → Refuses {X = ℕ} (append_fault made p) (Err (fault.Full n)) → PacksOn made from l → 256000 < (packed l).next
unfolding appended
is_full made from k n p l is h full before =
    let more = next_more (appended made p) (live_from (k + 1) l.entries) in
    let next : (all_appended (appended made p) (live_from (k + 1) l.entries)).next ≡ (packed l).next = ap (λ (x : Log). x.next) (one_more made from k p l is h before) in
    omega (arith, more, next, full_index made p n full)

pub ended : (made : Log) (from : ℕ) (l : Log) → first_live from l.entries ≡ None → PacksOn made from l → made ≡ packed l
ended made from l h all = sym (all_none made) ∙ sym (ap (λ (ps : List (List ℕ)). all_appended made ps) (none_from from l.entries h)) ∙ all
