-- The indexes of a log rise; its first live record; what cancelling leaves as it is.
use Rattle.std.proofs.Common.{◌≡◌, ◌≢◌, ℕ, ◌+◌, ◌<◌, ◌≤◌, ◌⊎◌, Bool, true, false, leb, eqb, ◌&&◌, ◌||◌, if◌then◌else◌, List, [], ◌∷◌, length, map, Option, Some, None, refl, sym, ap, ◌∙◌, arith, inl, inr, length-append}
use Rattle.std.proofs.lemmas.Bool.{eq-eqb, le-leb, leb-true}
use Rattle.std.proofs.lemmas.Bool.Decides.{eqb_tells, leb_tells}
use Rattle.std.proofs.lemmas.Option.{none-some, same_Some}
use Rattle.llog_store.specs.Bitmap.{bitmap}
use Rattle.llog_store.specs.Log.{Entry, Log, IsLog, record_size, entry_end, Follows, is_live, live_count, header_text, entry_text, records_text, log_text}
use Rattle.llog_store.specs.Changes.{without, first_live}
use Rattle.llog_store.proofs.Fitting.{either_fits, index_fits, index_behind}
use Rattle.llog_store.proofs.Marks.{length-bitmap}
use Rattle.llog_store.proofs.Whole.{length-header}
use Rattle.target_state.specs.Marking.{id_in, is_up_to, without_done, cancelled_log}

-- ---- indexes rise

abbrev pub Rises : ℕ → List Entry → ℕ → Type 0
Rises index [] next = index ≤ next
Rises index (e ∷ es) next = (index ≤ e.index) × Rises (e.index + 1) es next

rises : (place index : ℕ) (es : List Entry) (next : ℕ) → Follows place index es next → Rises index es next
unfolding Follows
rises place index [] next f = omega (arith, f)
rises place index (e ∷ es) next f =
    let size = record_size (length e.payload) in
    let low : index ≤ e.index = elim (either_fits place e) [ inl fit ↦ omega (arith, f.0, index_fits place index size fit) | inr off ↦ omega (arith, f.0, index_behind place index size off) ] in
    (low, rises (entry_end place e) (e.index + 1) es next f.2)

pub log_rises : (l : Log) → IsLog l → Rises 1 l.entries l.next
log_rises l is = rises 32768 1 l.entries l.next is.follows

-- ---- the first live record

pub both_true : (a b : Bool) → (a && b) ≡ true → (a ≡ true) × (b ≡ true)
both_true true b h = (refl, h)
both_true false b h = absurd cc

pub none_first : {X : Type 0} (b : Bool) (x : X) (o : Option X) → (if b then Some x else o) ≡ None → (b ≡ false) × (o ≡ None)
none_first true x o h = absurd (none-some x (sym h))
none_first false x o h = (refl, h)

pub some_first : {X : Type 0} (b : Bool) (x y : X) (o : Option X) → (if b then Some x else o) ≡ Some y → ((b ≡ true) × (x ≡ y)) ⊎ ((b ≡ false) × (o ≡ Some y))
some_first true x y o h = inl (refl, same_Some x y h)
some_first false x y o h = inr (refl, h)

pub record Found (from index next k : ℕ) : Type 0 where
  pub high : from ≤ k
  pub above : index ≤ k
  pub below : k < next

ends_above : (index : ℕ) (es : List Entry) (next : ℕ) → Rises index es next → index ≤ next
ends_above index [] next r = r
ends_above index (e ∷ es) next r = omega (arith, r.0, ends_above (e.index + 1) es next r.1)

pub found : (from index : ℕ) (es : List Entry) (next k : ℕ) (p : List ℕ) → Rises index es next → first_live from es ≡ Some (k, p) → Found from index next k
unfolding first_live
found from index [] next k p r h = absurd (none-some (k, p) h)
found from index (e ∷ es) next k p r h =
    elim (some_first (e.live && leb from e.index) (e.index, e.payload) (k, p) (first_live from es) h) [
      | inl hit ↦
          let same : e.index ≡ k = ap (λ (x : ℕ × List ℕ). x.0) hit.1 in
          let high = leb-true from e.index (both_true e.live (leb from e.index) hit.0).1 in
          record { high = omega (arith, same, high); above = omega (arith, same, r.0); below = omega (arith, same, ends_above (e.index + 1) es next r.1) }
      | inr miss ↦
          let later = found from (e.index + 1) es next k p r.1 miss.1 in
          let low = later.above in
          record { high = later.high; above = omega (arith, low, r.0); below = later.below }
    ]

-- ---- one record

abbrev pub entry : ℕ → Bool → List ℕ → Entry
entry index live payload = record { index = index; live = live; payload = payload }

pub other : (k : ℕ) (e : Entry) → e.index ≢ k → without k e ≡ e
other k e differ =
    elim (eqb_tells e.index k) [
      | inl t ↦ absurd (differ t.1)
      | inr t ↦ rw t.0 refl
    ]

pub untouched : (k index : ℕ) (es : List Entry) (next : ℕ) → Rises index es next → k < index → map (without k) es ≡ es
untouched k index [] next r low = refl
untouched k index (e ∷ es) next r low =
    let high : k < e.index = omega (arith, low, r.0) in
    rw (other k e (λ same. absurd (omega (arith, high, same))), untouched k (e.index + 1) es next r.1 (omega (arith, high))) refl

-- ---- its length

entry_same : (b : Bool) (place : ℕ) (e : Entry) → entry_text place (if b then entry e.index false e.payload else e) ≡ entry_text place e
unfolding entry_text
entry_same true place e = refl
entry_same false place e = refl

end_same : (b : Bool) (place : ℕ) (e : Entry) → entry_end place (if b then entry e.index false e.payload else e) ≡ entry_end place e
end_same true place e = refl
end_same false place e = refl

texts : (place master mark : ℕ) (es : List Entry) → records_text place (map (without_done master mark) es) ≡ records_text place es
unfolding records_text
texts place master mark [] = refl
texts place master mark (e ∷ es) =
    let b = is_up_to master mark (id_in e.payload) in
    rw (entry_same b place e, end_same b place e, texts (entry_end place e) master mark es) refl

long : (l : Log) → length (log_text l) ≡ 32768 + length (records_text 32768 l.entries)
unfolding log_text
long l =
    let bits = bitmap (is_live l.entries) in
    let head = length-header l.next (live_count l.entries) bits (length-bitmap (is_live l.entries)) in
    let both = length-append (header_text l.next (live_count l.entries) bits) (records_text 32768 l.entries) in
    omega (arith, head, both)

pub as_long : (master mark : ℕ) (l : Log) → length (log_text (cancelled_log master mark l)) ≡ length (log_text l)
as_long master mark l = long (cancelled_log master mark l) ∙ ap (λ (bytes : List ℕ). 32768 + length bytes) (texts 32768 master mark l.entries) ∙ sym (long l)
