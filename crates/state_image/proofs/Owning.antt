-- The payloads of the live records of a log, judged one after another.
use Rattle.std.proofs.Common.{◌≡◌, ℕ, zero, suc, ◌+◌, ◌<◌, ◌≤◌, Bool, true, false, cond, eqb, ◌&&◌, List, [], ◌∷◌, ◌++◌, length, take, drop, Option, Some, None, IfSome, Result, Ok, Err, refl, sym, ap, subst, ◌∙◌, arith, inl, inr}
use Rattle.std.specs.List.{AllByRecursion}
use Rattle.std.proofs.lemmas.Bool.{eqb-true, eq-eqb}
use Rattle.std.proofs.lemmas.Bool.Decides.{eqb_tells}
use Rattle.std.proofs.lemmas.List.{append-nil, take_at}
use Rattle.byte_grammar.specs.Numbers.{IsBytes}
use Rattle.byte_grammar.specs.declared.verdict.Verdict.{Verdict}
use Rattle.byte_grammar.specs.declared.verdict.Verdict.TheVariants as verdict
use Rattle.byte_grammar.proofs.Bytes.{IsBytes-drop, IsBytes-take}
use Rattle.llog_store.specs.Log.{Entry, Log, record_size, entry_end, fits_in, room, Follows}
use Rattle.llog_store.specs.Changes.{live_payloads, live_payload, live_place}
use Rattle.object_store.specs.declared.fault.ImageFault.{ImageFault}
use Rattle.object_store.specs.declared.fault.ImageFault.TheVariants as fault
use Rattle.object_store.specs.ImageReading.{◌>>=◌, unless_bad}
use Rattle.object_store.proofs.ImageFields.{bind_ok, guard_ok, ok_is, unless_ok}
use Rattle.update_record.specs.declared.operation.Record.{Record}
use Rattle.update_record.specs.Spelling.{record_text, FitsRecord, spells_record}
use Rattle.update_record.specs.Values.{record_value}
use Rattle.update_record.specs.Decoding.{judge_record}
use Rattle.state_image.specs.StateText.{IsOwn}
use Rattle.state_image.specs.StateReading.{moved_by, no_record, record_in, is_own_value, payload_at, maybe_payload, payloads_at}

and_false : (b : Bool) → (b && false) ≡ false
and_false true = refl
and_false false = refl

-- ---- a payload by its index

picked : (P : List ℕ → Type 0) (l b : Bool) (p : List ℕ) (ps : List (List ℕ)) (o : Option (List ℕ)) → AllByRecursion P (cond l (p ∷ ps) ps) → (AllByRecursion P ps → IfSome o P) → IfSome (cond (l && b) (Some p) o) P
picked P true true p ps o all others = all.0
picked P true false p ps o all others = others all.1
picked P false b p ps o all others = others all

each_payload : (P : List ℕ → Type 0) (i : ℕ) (es : List Entry) → AllByRecursion P (live_payloads es) → IfSome (live_payload i es) P
unfolding live_payloads live_payload
each_payload P i [] all = tt
each_payload P i (e ∷ es) all = picked P e.live (eqb e.index i) e.payload (live_payloads es) (live_payload i es) all (each_payload P i es)

index_least : (b : Bool) (index : ℕ) → index ≤ cond b index (index + 1)
index_least true index = omega arith
index_least false index = omega arith

follows_least : (place index : ℕ) (es : List Entry) (next : ℕ) → Follows place index es next → index ≤ next
unfolding Follows
follows_least place index [] next f = omega (arith, f)
follows_least place index (e ∷ es) next f =
    let low = index_least (fits_in (room place) (record_size (length e.payload))) index in
    let others = follows_least (entry_end place e) (e.index + 1) es next f.2 in
    omega (arith, f.0, low, others)

no_earlier : (place index : ℕ) (es : List Entry) (next i : ℕ) → Follows place index es next → i < index → live_payload i es ≡ None
unfolding Follows live_payload
no_earlier place index [] next i f low = refl
no_earlier place index (e ∷ es) next i f low =
    let least = index_least (fits_in (room place) (record_size (length e.payload))) index in
    let others = no_earlier (entry_end place e) (e.index + 1) es next i f.2 (omega (arith, f.0, least, low)) in
    elim (eqb_tells e.index i) [
      | inl same ↦ absurd (let is = same.1 in omega (arith, f.0, least, low, is))
      | inr other ↦ rw (other.0, and_false e.live) others
    ]

gathered : (P : List ℕ → Type 0) (l : Bool) (p : List ℕ) (ps : List (List ℕ)) → (l ≡ true → P p) → AllByRecursion P ps → AllByRecursion P (cond l (p ∷ ps) ps)
gathered P true p ps one all = (one refl, all)
gathered P false p ps one all = all

all_payloads : (P : List ℕ → Type 0) (place index : ℕ) (es : List Entry) (next : ℕ) → Follows place index es next → ((i : ℕ) → i < next → IfSome (live_payload i es) P) → AllByRecursion P (live_payloads es)
unfolding Follows live_payloads live_payload
all_payloads P place index [] next f each = tt
all_payloads P place index (e ∷ es) next f each =
    let high = follows_least (entry_end place e) (e.index + 1) es next f.2 in
    let here : e.live ≡ true → P e.payload = λ alive.
    let is : live_payload e.index (e ∷ es) ≡ Some e.payload = rw (alive, eq-eqb e.index e.index refl) refl in
    subst (λ (o : Option (List ℕ)). IfSome o P) is (each e.index (omega (arith, high))) in
    let later : (i : ℕ) → i < next → IfSome (live_payload i es) P = λ i low.
    elim (eqb_tells e.index i) [
      | inl same ↦
          let is = same.1 in
          let none = no_earlier (entry_end place e) (e.index + 1) es next i f.2 (omega (arith, is)) in
          subst (λ (o : Option (List ℕ)). IfSome o P) (sym none) tt
      | inr other ↦
          let is : live_payload i (e ∷ es) ≡ live_payload i es = rw (other.0, and_false e.live) refl in
          subst (λ (o : Option (List ℕ)). IfSome o P) is (each i low)
    ] in
    gathered P e.live e.payload (live_payloads es) here (all_payloads P (entry_end place e) (e.index + 1) es next f.2 later)

-- ---- judging them in order

module _ (targets index : ℕ) (entries : List Entry) where
  judged_again : ((i : ℕ) → maybe_payload targets index (live_place 32768 i entries) (live_payload i entries) ≡ Ok tt) → (first n : ℕ) → payloads_at targets index entries first n ≡ Ok tt
  unfolding payloads_at
  judged_again each first zero = refl
  judged_again each first (suc n) = rw (each first) (judged_again each (first + 1) n)

  judged_only : (first n i : ℕ) → payloads_at targets index entries first n ≡ Ok tt → first ≤ i → i < first + n → maybe_payload targets index (live_place 32768 i entries) (live_payload i entries) ≡ Ok tt
  unfolding payloads_at
  judged_only first zero i e low high = absurd (omega (arith, low, high))
  judged_only first (suc n) i e low high =
      let a = bind_ok (maybe_payload targets index (live_place 32768 first entries) (live_payload first entries)) _ _ e in
      elim (eqb_tells first i) [
        | inl same ↦ subst (λ (k : ℕ). maybe_payload targets index (live_place 32768 k entries) (live_payload k entries) ≡ Ok tt) same.1 a.1
        | inr other ↦ let differ = other.1 in judged_only (first + 1) n i a.2 (omega (arith, low, differ)) (omega (arith, high))
      ]

-- ---- one payload

pub moved_ok : {A : Type 0} (place : ℕ) (r : Result A ImageFault) (x : A) → moved_by place r ≡ Ok x → r ≡ Ok x
moved_ok place (Ok y) x e = e
moved_ok place (Err d) x e = absurd cc

none_if : (b : Bool) (n : ℕ) → cond b None (Some n) ≡ None → b ≡ true
none_if true n e = refl
none_if false n e = absurd cc

whole_verdict : (n : ℕ) (v : Verdict) → no_record n v ≡ None → v ≡ verdict.Done n
whole_verdict n verdict.More e = absurd cc
whole_verdict n (verdict.Refused r) e = absurd cc
whole_verdict n (verdict.Done end) e = ap verdict.Done (eqb-true end n (none_if (eqb end n) n e))

whole_take : (bytes : List ℕ) → take (length bytes) bytes ≡ bytes
whole_take bytes = ap (take (length bytes)) (sym (append-nil bytes)) ∙ take_at bytes [] (length bytes) refl

-- by what is proved of the spellings of records
module _
    (spelled : (r : Record) (a rest : List ℕ) → spells_record r a → judge_record (a ++ rest) ≡ verdict.Done (length a))
    (alone : (r : Record) → FitsRecord r → record_value (record_text r) ≡ Some r) where
  own_again : (targets index place : ℕ) (payload : List ℕ) → IsOwn targets index payload → payload_at targets index place payload ≡ Ok tt
  unfolding payload_at record_in
  own_again targets index place payload own =
      let judged : judge_record payload ≡ verdict.Done (length payload) = ap judge_record (sym (append-nil payload)) ∙ spelled own.0 payload [] own.1 in
      let value : record_value payload ≡ Some own.0 = ap record_value own.1.1 ∙ alone own.0 own.1.0 in
      rw (judged, eq-eqb (length payload) (length payload) refl, value, own.2) refl

  maybe_again : (targets index : ℕ) (o : Option ℕ) (p : Option (List ℕ)) → IfSome p (IsOwn targets index) → maybe_payload targets index o p ≡ Ok tt
  maybe_again targets index None p own = refl
  maybe_again targets index (Some place) None own = refl
  maybe_again targets index (Some place) (Some payload) own = own_again targets index place payload own

  pub payloads_again : (targets index : ℕ) (entries : List Entry) (n : ℕ) → AllByRecursion (IsOwn targets index) (live_payloads entries) → payloads_at targets index entries 0 n ≡ Ok tt
  payloads_again targets index entries n all =
      judged_again targets index entries (λ i. maybe_again targets index (live_place 32768 i entries) (live_payload i entries) (each_payload (IsOwn targets index) i entries all)) 0 n

module _
    (alone : (r : Record) → FitsRecord r → record_value (record_text r) ≡ Some r)
    (done : (bytes : List ℕ) (k : ℕ) → IsBytes bytes → judge_record bytes ≡ verdict.Done k → (r : Record) × spells_record r (take k bytes) × (k ≤ length bytes)) where
  own_only : (targets index place : ℕ) (payload : List ℕ) → IsBytes payload → payload_at targets index place payload ≡ Ok tt → IsOwn targets index payload
  unfolding payload_at record_in
  own_only targets index place payload fits e =
      let a = bind_ok (moved_by place (unless_bad (no_record (length payload) (judge_record payload)) 0 payload >>= λ whole. Ok (record_value whole))) _ _ e in
      let b = bind_ok (unless_bad (no_record (length payload) (judge_record payload)) 0 payload) _ _ (moved_ok place _ a.0 a.1) in
      let u = unless_ok (no_record (length payload) (judge_record payload)) 0 payload b.0 b.1 in
      let s = done payload (length payload) fits (whole_verdict (length payload) (judge_record payload) u.0) in
      let spells : spells_record s.0 payload = subst (λ (bytes : List ℕ). spells_record s.0 bytes) (whole_take payload) s.1 in
      let value : record_value payload ≡ Some s.0 = ap record_value spells.1 ∙ alone s.0 spells.0 in
      let which : a.0 ≡ Some s.0 = sym (ok_is (record_value b.0) a.0 b.2) ∙ ap record_value (sym u.1) ∙ value in
      let own = guard_ok (is_own_value targets index a.0) (fault.BadImage place) tt tt a.2 in
      (s.0, spells, subst (λ (o : Option Record). is_own_value targets index o ≡ true) which own.0)

  maybe_only : (targets index : ℕ) (o : Option ℕ) (p : Option (List ℕ)) → (o ≡ None → p ≡ None) → ((place : ℕ) (payload : List ℕ) → o ≡ Some place → p ≡ Some payload → IsBytes payload) → maybe_payload targets index o p ≡ Ok tt → IfSome p (IsOwn targets index)
  maybe_only targets index None p both bytes e = subst (λ (q : Option (List ℕ)). IfSome q (IsOwn targets index)) (sym (both refl)) tt
  maybe_only targets index (Some place) None both bytes e = tt
  maybe_only targets index (Some place) (Some payload) both bytes e = own_only targets index place payload (bytes place payload refl refl) e

  -- and of the places of payloads in a log
  pub payloads_only : (targets index : ℕ) (log : Log) (text : List ℕ) → IsBytes text → Follows 32768 1 log.entries log.next
      → ((i : ℕ) → live_place 32768 i log.entries ≡ None → live_payload i log.entries ≡ None)
      → ((i by : ℕ) (payload : List ℕ) → live_place 32768 i log.entries ≡ Some by → live_payload i log.entries ≡ Some payload → take (length payload) (drop by text) ≡ payload)
      → payloads_at targets index log.entries 0 log.next ≡ Ok tt → AllByRecursion (IsOwn targets index) (live_payloads log.entries)
  payloads_only targets index log text fits follows both stands e =
      all_payloads (IsOwn targets index) 32768 1 log.entries log.next follows (λ i low.
      maybe_only targets index (live_place 32768 i log.entries) (live_payload i log.entries) (both i)
      (λ by payload p q. subst IsBytes (stands i by payload p q) (IsBytes-take (length payload) (drop by text) (IsBytes-drop by text fits)))
      (judged_only targets index log.entries 0 log.next i e (omega arith) (omega (arith, low))))
