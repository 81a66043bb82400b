-- The last record of a master that doesn't wait has the greatest batch of those that are committed.
use Rattle.std.proofs.Common.{◌≡◌, ◌≢◌, ℕ, suc, ◌+◌, ◌-◌, ◌*◌, ◌<◌, ◌≤◌, ◌⊎◌, ◌||◌, Bool, true, false, List, [], ◌∷◌, ◌++◌, length, Option, Some, None, Contains, refl, sym, ap, subst, ◌∙◌, arith, inl, inr}
use Rattle.std.specs.declared.cmp.Ordering.{Ordering}
use Rattle.std.specs.declared.cmp.Ordering.TheVariants.{Less, Equal, Greater}
use Rattle.std.specs.Ordering.{nat_cmp, ordering_then, is_lt}
use Rattle.std.specs.BTreeSet.{BTreeSet, contains}
use Rattle.std.specs.List.{AllByRecursion}
use Rattle.std.proofs.lemmas.Bool.{true≢false, eq-eqb, le-ltb, lt-ltb}
use Rattle.std.proofs.lemmas.Bool.Decides.{eqb_tells, leb_tells}
use Rattle.std.proofs.lemmas.List.Elements.{Contains-append_left, Contains-append_right}
use Rattle.llog_store.specs.Log.{Entry, Log}
use Rattle.llog_store.specs.Changes.{live_payloads}
use Rattle.target_state.specs.declared.indexed.LiveRecord.{LiveRecord}
use Rattle.target_state.specs.declared.waiting.Waiting.{Waiting}
use Rattle.target_state.specs.Marking.{id_in, waits, stable_id, stable_ids, greatest_batch, IsGreatest}
use Rattle.target_state.specs.Indexed.{live_cmp, has_id, is_entry, is_listed, AreListed, IsStable, IsLatest}
use Rattle.target_state.proofs.Indexing.{at_entry, id_tells, id_found, live_entry, either, or_true, told}
use Rattle.target_state.proofs.Greatest.{is_greatest, one_greatest}

-- ---- the order of records

equal : (x y : ℕ) → x ≡ y → nat_cmp x y ≡ Equal
equal x y same = rw (le-ltb x y (omega (arith, same)), eq-eqb x y same) refl

less : (x y : ℕ) → x < y → nat_cmp x y ≡ Less
less x y low = rw (lt-ltb x y low) refl

greater : (x y : ℕ) → y < x → nat_cmp x y ≡ Greater
greater x y high =
    elim (eqb_tells x y) [
      | inl same ↦ absurd (let e = same.1 in omega (arith, e, high))
      | inr differ ↦ rw (le-ltb x y (omega (arith, high)), differ.0) refl
    ]

less_then : (x y : ℕ) (o : Ordering) → ordering_then (nat_cmp x y) o ≡ Less → (x < y) ⊎ ((x ≡ y) × (o ≡ Less))
less_then x y o h =
    elim (leb_tells y x) [
      | inr low ↦ inl low.1
      | inl high ↦
          elim (eqb_tells x y) [
            | inl same ↦ inr (same.1, ap (λ (c : Ordering). ordering_then c o) (sym (equal x y same.1)) ∙ h)
            | inr differ ↦
                let over : y < x = let up = high.1 in elim (leb_tells x y) [ inl t ↦ absurd (differ.1 (let low = t.1 in omega (arith, low, up))) | inr t ↦ t.1 ] in
                absurd (true≢false (sym (ap is_lt h) ∙ ap (λ (c : Ordering). is_lt (ordering_then c o)) (greater x y over)))
          ]
    ]

less_is : (x y : ℕ) → nat_cmp x y ≡ Less → x < y
less_is x y h = elim (less_then x y Equal (ap (λ (c : Ordering). ordering_then c Equal) h)) [ inl low ↦ low | inr t ↦ absurd (true≢false (sym (ap is_lt t.1))) ]

comes_before : (a b : LiveRecord) → live_cmp a b ≡ Less → (a.master < b.master) ⊎ ((a.master ≡ b.master) × ((a.batch < b.batch) ⊎ ((a.batch ≡ b.batch) × (a.index < b.index))))
comes_before a b h =
    elim (less_then a.master b.master (ordering_then (nat_cmp a.batch b.batch) (nat_cmp a.index b.index)) h) [
      | inl low ↦ inl low
      | inr same ↦ inr (same.0, elim (less_then a.batch b.batch (nat_cmp a.index b.index) same.1) [ inl low ↦ inl low | inr t ↦ inr (t.0, less_is a.index b.index t.1) ])
    ]

by_master : (a b : LiveRecord) → a.master < b.master → live_cmp a b ≡ Less
by_master a b low = ap (λ (c : Ordering). ordering_then c (ordering_then (nat_cmp a.batch b.batch) (nat_cmp a.index b.index))) (less a.master b.master low)

by_batch : (a b : LiveRecord) → a.master ≡ b.master → a.batch < b.batch → live_cmp a b ≡ Less
by_batch a b same low =
    ap (λ (c : Ordering). ordering_then c (ordering_then (nat_cmp a.batch b.batch) (nat_cmp a.index b.index))) (equal a.master b.master same)
    ∙ ap (λ (c : Ordering). ordering_then c (nat_cmp a.index b.index)) (less a.batch b.batch low)

master_most : (r q : LiveRecord) → is_lt (live_cmp r q) ≡ false → q.master ≤ r.master
master_most r q h =
    elim (leb_tells q.master r.master) [
      | inl t ↦ t.1
      | inr t ↦ absurd (true≢false (sym (ap is_lt (by_master r q t.1)) ∙ h))
    ]

batch_most : (r q : LiveRecord) → is_lt (live_cmp r q) ≡ false → r.master ≡ q.master → q.batch ≤ r.batch
batch_most r q h same =
    elim (leb_tells q.batch r.batch) [
      | inl t ↦ t.1
      | inr t ↦ absurd (true≢false (sym (ap is_lt (by_batch r q same t.1)) ∙ h))
    ]

-- ---- from the end of a master's records

abbrev pub IsEnd : ℕ → LiveRecord → Type 0
IsEnd master end = (end.index ≡ 0) × ((end.master ≡ master) ⊎ ((end.master ≡ master + 1) × (end.batch ≡ 0)))

-- all that don't wait are before it
abbrev pub AreBefore : BTreeSet LiveRecord → List Waiting → ℕ → LiveRecord → Type 0
AreBefore live ws master end = (q : LiveRecord) → IsStable live ws master q → live_cmp q end ≡ Less

abbrev pub GoesOn : BTreeSet LiveRecord → List Waiting → ℕ → LiveRecord → Type 0
GoesOn live ws master end = IsEnd master end × AreBefore live ws master end

-- what is told of the last record before an end
abbrev pub IsLast : BTreeSet LiveRecord → LiveRecord → LiveRecord → Type 0
IsLast live end r = (live_cmp r end ≡ Less) × ((q : LiveRecord) → live_cmp q end ≡ Less → contains live_cmp live q ≡ true → is_lt (live_cmp r q) ≡ false)

abbrev pub end_at : ℕ → ℕ → LiveRecord
end_at master batch = record { master = master; batch = batch; index = 0 }

pub begun : (live : BTreeSet LiveRecord) (ws : List Waiting) (master : ℕ) → GoesOn live ws master (end_at (master + 1) 0)
begun live ws master = ((refl, inr (refl, refl)), λ q stable. let same = stable.1 in by_master q (end_at (master + 1) 0) (omega (arith, same)))

master_below : (master : ℕ) (end r : LiveRecord) → IsEnd master end → live_cmp r end ≡ Less → r.master ≤ master
master_below master end r is h =
    let none = is.0 in
    elim is.1 [
      | inl own ↦ elim (comes_before r end h) [ inl low ↦ omega (arith, low, own) | inr same ↦ let e = same.0 in omega (arith, e, own) ]
      | inr next ↦
          let e = next.0 in
          let z = next.1 in
          elim (comes_before r end h) [
            | inl low ↦ omega (arith, low, e)
            | inr same ↦ absurd (elim same.1 [ inl low ↦ omega (arith, low, z) | inr t ↦ let low = t.1 in omega (arith, low, none) ])
          ]
    ]

pub other_master : (live : BTreeSet LiveRecord) (ws : List Waiting) (master : ℕ) (end r : LiveRecord) → GoesOn live ws master end → IsLast live end r → r.master ≢ master → (q : LiveRecord) → IsStable live ws master q → ⊥
other_master live ws master end r goes last differ q stable =
    let high = master_most r q (last.1 q (goes.1 q stable) stable.0) in
    let low = master_below master end r goes.0 last.0 in
    let same = stable.1 in
    differ (omega (arith, high, low, same))

pub found : (live : BTreeSet LiveRecord) (ws : List Waiting) (master : ℕ) (end r : LiveRecord) → GoesOn live ws master end → contains live_cmp live r ≡ true → IsLast live end r → r.master ≡ master → waits ws master r.batch ≡ false
    → IsLatest live ws master (Some r.batch)
found live ws master end r goes there last same off =
    ((r, (there, same, off), refl), λ q stable. batch_most r q (last.1 q (goes.1 q stable) stable.0) (same ∙ sym stable.1))

pub goes_on : (live : BTreeSet LiveRecord) (ws : List Waiting) (master : ℕ) (end r : LiveRecord) → GoesOn live ws master end → IsLast live end r → r.master ≡ master → waits ws master r.batch ≡ true → GoesOn live ws master (end_at master r.batch)
goes_on live ws master end r goes last same on = (
  (refl, inl refl),
  λ q stable.
      let most = batch_most r q (last.1 q (goes.1 q stable) stable.0) (same ∙ sym stable.1) in
      elim (eqb_tells q.batch r.batch) [
        | inl t ↦ absurd (true≢false (sym on ∙ ap (waits ws master) (sym t.1) ∙ stable.2))
        | inr t ↦ by_batch q (end_at master r.batch) stable.1 (elim (leb_tells r.batch q.batch) [ inl s ↦ absurd (t.1 (let up = s.1 in omega (arith, most, up))) | inr s ↦ s.1 ])
      ],
)

abbrev pub left : ℕ → LiveRecord → ℕ
left master end = (end.master - master) * 18446744073709551616 + end.batch

pub smaller : (master : ℕ) (end r : LiveRecord) → IsEnd master end → live_cmp r end ≡ Less → r.master ≡ master → r.batch < 18446744073709551616 → left master (end_at master r.batch) < left master end
smaller master end r is h same fits =
    let none = is.0 in
    elim is.1 [
      | inl own ↦
          elim (comes_before r end h) [
            | inl low ↦ absurd (omega (arith, low, own, same))
            | inr t ↦ elim t.1 [ inl low ↦ omega (arith, low, own) | inr z ↦ absurd (let low = z.1 in omega (arith, low, none)) ]
          ]
      | inr next ↦ let e = next.0 in omega (arith, e, fits)
    ]

pub none_left : (live : BTreeSet LiveRecord) (ws : List Waiting) (master : ℕ) (end : LiveRecord) → GoesOn live ws master end → ((q : LiveRecord) → live_cmp q end ≡ Less → contains live_cmp live q ≡ false) → (q : LiveRecord) → IsStable live ws master q → ⊥
none_left live ws master end goes none q stable = true≢false (sym stable.0 ∙ none q (goes.1 q stable))

-- ---- what the log has

of_id : (q : LiveRecord) (ws : List Waiting) (o : Option (ℕ × ℕ)) → has_id q o ≡ true → waits ws q.master q.batch ≡ false → Contains (stable_id ws o) (q.master, q.batch)
of_id q ws o has off =
    subst (λ (x : Option (ℕ × ℕ)). Contains (stable_id ws x) (q.master, q.batch)) (sym (id_tells q o has)) (rw off (0, omega arith, refl))

stable_in : (q : LiveRecord) (ws : List Waiting) (es : List Entry) → is_listed q es ≡ true → waits ws q.master q.batch ≡ false → Contains (stable_ids ws (live_payloads es)) (q.master, q.batch)
unfolding is_listed live_payloads stable_ids
stable_in q ws [] h off = absurd (true≢false (sym h))
stable_in q ws (e ∷ es) h off =
    elim (either (is_entry q e) (is_listed q es) h) [
      | inl here ↦
          let t = at_entry q e here in
          rw t.0 (Contains-append_left (stable_id ws (id_in e.payload)) (stable_ids ws (live_payloads es)) (q.master, q.batch) (of_id q ws (id_in e.payload) t.1.1 off))
      | inr later ↦
          let rest = stable_in q ws es later off in
          elim (told e.live) [
            | inl on ↦ rw on (Contains-append_right (stable_id ws (id_in e.payload)) (stable_ids ws (live_payloads es)) (q.master, q.batch) rest)
            | inr dead ↦ rw dead rest
          ]
    ]

all_of_id : (P : ℕ × ℕ → Type 0) (ws : List Waiting) (o : Option (ℕ × ℕ)) (rest : List (ℕ × ℕ)) → ((id : ℕ × ℕ) → o ≡ Some id → waits ws id.0 id.1 ≡ false → P id) → AllByRecursion P rest → AllByRecursion P (stable_id ws o ++ rest)
all_of_id P ws None rest each all = all
all_of_id P ws (Some id) rest each all =
    elim (told (waits ws id.0 id.1)) [
      | inl on ↦ rw on all
      | inr off ↦ rw off (each id refl off, all)
    ]

stable_all : (P : ℕ × ℕ → Type 0) (ws : List Waiting) (es : List Entry) → ((q : LiveRecord) → is_listed q es ≡ true → waits ws q.master q.batch ≡ false → P (q.master, q.batch)) → AllByRecursion P (stable_ids ws (live_payloads es))
unfolding is_listed live_payloads stable_ids
stable_all P ws [] each = tt
stable_all P ws (e ∷ es) each =
    let rest = stable_all P ws es (λ q h off. each q (rw h (or_true (is_entry q e))) off) in
    elim (told e.live) [
      | inr dead ↦ rw dead rest
      | inl on ↦
          rw on (all_of_id P ws (id_in e.payload) (stable_ids ws (live_payloads es))
          (λ id is off.
          let q : LiveRecord = record { master = id.0; batch = id.1; index = e.index } in
          each q (ap (λ (b : Bool). b || is_listed q es) (live_entry q e refl (id_found q (id_in e.payload) is) ∙ on)) off)
          rest)
    ]

is_latest : (live : BTreeSet LiveRecord) (ws : List Waiting) (master : ℕ) (es : List Entry) (o : Option ℕ) → AreListed live es → IsLatest live ws master o → IsGreatest master (stable_ids ws (live_payloads es)) o
is_latest live ws master es None all none =
    stable_all (λ (id : ℕ × ℕ). id.0 ≡ master → ⊥) ws es (λ q h off same. none q (all q ∙ h, same, ap (λ (m : ℕ). waits ws m q.batch) (sym same) ∙ off))
is_latest live ws master es (Some batch) all some =
    let r = some.0.0 in
    let stable = some.0.1 in
    let in_log = stable_in r ws es (sym (all r) ∙ stable.0) (ap (λ (m : ℕ). waits ws m r.batch) stable.1 ∙ stable.2) in
    let id : (r.master, r.batch) ≡ (master, batch) = λ i. (stable.1 i, some.0.2 i) in (
      subst (λ (x : ℕ × ℕ). Contains (stable_ids ws (live_payloads es)) x) id in_log,
      stable_all (λ (id : ℕ × ℕ). id.0 ≡ master → id.1 ≤ batch) ws es (λ q h off same. some.1 q (all q ∙ h, same, ap (λ (m : ℕ). waits ws m q.batch) (sym same) ∙ off)),
    )

pub latest_is : (live : BTreeSet LiveRecord) (ws : List Waiting) (master : ℕ) (es : List Entry) (o : Option ℕ) → AreListed live es → IsLatest live ws master o → o ≡ greatest_batch master None (stable_ids ws (live_payloads es))
latest_is live ws master es o all is =
    let ids = stable_ids ws (live_payloads es) in
    one_greatest master ids o (greatest_batch master None ids) (is_latest live ws master es o all is) (is_greatest master ids)
