-- Each live record of a log comes, in the order of the log.
use Rattle.std.proofs.Common.{◌≡◌, ℕ, zero, suc, ◌+◌, ◌<◌, ◌≤◌, Bool, true, false, leb, ◌&&◌, List, [], ◌∷◌, map, Option, Some, None, refl, sym, ap, subst, if◌then◌else◌, ◌∙◌, arith, inl, inr}
use Rattle.std.proofs.lemmas.Bool.{le-leb}
use Rattle.std.proofs.lemmas.Bool.Decides.{leb_tells}
use Rattle.llog_store.specs.Log.{Entry, Log, IsLog, live_count}
use Rattle.llog_store.specs.Changes.{first_live, live_payloads}
use Rattle.target_state.proofs.Cancelling.{Rises, log_rises, found}
use Rattle.target_turns.specs.Showing.{then_live, live_from, live_records}

payload : ℕ × List ℕ → List ℕ
payload x = x.1

and_off : (b : Bool) → (b && false) ≡ false
and_off true = refl
and_off false = refl

-- ---- a record that comes no more

abbrev IsPast : ℕ → Entry → Type 0
IsPast from e = (m : ℕ) (es : List Entry) → from ≤ m → first_live m (e ∷ es) ≡ first_live m es

behind_it : (e : Entry) → IsPast (e.index + 1) e
unfolding first_live
behind_it e m es h =
    elim (leb_tells m e.index) [
      | inl t ↦ absurd (let high = t.1 in omega (arith, high, h))
      | inr t ↦ rw (t.0, and_off e.live) refl
    ]

not_live : (e : Entry) → e.live ≡ false → IsPast 0 e
unfolding first_live
not_live e off m es h = rw off refl

past_on : (n from index : ℕ) (e : Entry) (es : List Entry) (next : ℕ) (o : Option (ℕ × List ℕ)) → Rises index es next → first_live from es ≡ o → ((m : ℕ) → from ≤ m → live_from n m (e ∷ es) ≡ live_from n m es)
    → then_live o (λ m. live_from n m (e ∷ es)) ≡ then_live o (λ m. live_from n m es)
past_on n from index e es next None r h on = refl
past_on n from index e es next (Some x) r h on =
    let f = found from index es next x.0 x.1 r h in
    let high = f.high in
    ap (λ (xs : List (ℕ × List ℕ)). x ∷ xs) (on (x.0 + 1) (omega (arith, high)))

past : (n from index : ℕ) (e : Entry) (es : List Entry) (next : ℕ) → Rises index es next → IsPast from e → live_from n from (e ∷ es) ≡ live_from n from es
unfolding live_from
past zero from index e es next r gone = refl
past (suc n) from index e es next r gone =
    ap (λ (o : Option (ℕ × List ℕ)). then_live o (λ m. live_from n m (e ∷ es))) (gone from es (omega arith))
    ∙ past_on n from index e es next (first_live from es) r refl (λ m low. past n m index e es next r (λ k ys h. gone k ys (omega (arith, low, h))))

-- ---- all of them

first_is : (from : ℕ) (e : Entry) (es : List Entry) → e.live ≡ true → from ≤ e.index → first_live from (e ∷ es) ≡ Some (e.index, e.payload)
unfolding first_live
first_is from e es on high = rw (on, le-leb from e.index high) refl

shown_on : (b : Bool) (from index : ℕ) (e : Entry) (es : List Entry) (next : ℕ) → e.live ≡ b → Rises index (e ∷ es) next → from ≤ index
    → ((m : ℕ) → m ≤ e.index + 1 → map payload (live_from (live_count es) m es) ≡ live_payloads es)
    → map payload (live_from (live_count (e ∷ es)) from (e ∷ es)) ≡ live_payloads (e ∷ es)
unfolding live_from live_count live_payloads first_live payload
shown_on true from index e es next on r low rest =
    let high : from ≤ e.index = omega (arith, low, r.0) in
    let one : 1 + live_count es ≡ suc (live_count es) = omega arith in
    subst (λ b. map payload (live_from ((if b then 1 else 0) + live_count es) from (e ∷ es)) ≡ (if b then e.payload ∷ live_payloads es else live_payloads es)) (sym on)
    (ap (λ (n : ℕ). map payload (live_from n from (e ∷ es))) one
    ∙ (ap (λ (o : Option (ℕ × List ℕ)). map payload (then_live o (λ m. live_from (live_count es) m (e ∷ es)))) (first_is from e es on high)
    ∙ ap (λ (xs : List (List ℕ)). e.payload ∷ xs)
    (ap (λ (xs : List (ℕ × List ℕ)). map payload xs) (past (live_count es) (e.index + 1) (e.index + 1) e es next r.1 (behind_it e)) ∙ rest (e.index + 1) (omega arith))))
shown_on false from index e es next off r low rest =
    subst (λ b. map payload (live_from ((if b then 1 else 0) + live_count es) from (e ∷ es)) ≡ (if b then e.payload ∷ live_payloads es else live_payloads es)) (sym off)
    (let same : 0 + live_count es ≡ live_count es = omega arith in
    ap (λ (n : ℕ). map payload (live_from n from (e ∷ es))) same
    ∙ (ap (λ (xs : List (ℕ × List ℕ)). map payload xs) (past (live_count es) from (e.index + 1) e es next r.1 (λ m ys h. not_live e off m ys (omega arith))) ∙ rest from (omega (arith, low, r.0))))

shown : (from index : ℕ) (es : List Entry) (next : ℕ) → Rises index es next → from ≤ index → map payload (live_from (live_count es) from es) ≡ live_payloads es
unfolding live_from live_count live_payloads
shown from index [] next r low = refl
shown from index (e ∷ es) next r low = shown_on e.live from index e es next refl r low (λ m h. shown m (e.index + 1) es next r.1 h)

pub log_shown : (l : Log) → IsLog l → map (λ (x : ℕ × List ℕ). x.1) (live_records l.entries) ≡ live_payloads l.entries
unfolding payload
log_shown l is = shown 1 1 l.entries l.next (log_rises l is) (omega arith)
