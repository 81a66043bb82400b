-- What was asked under a name, once an ask more is numbered.
use Rattle.std.proofs.Common.{◌≡◌, ◌≤◌, ◌<◌, ◌+◌, ◌-◌, zero, suc, length, get_or, ℕ, Bool, true, false, if◌then◌else◌, List, [], ◌∷◌, Option, None, refl, sym, ap, ◌∙◌, subst, arith}
use Rattle.out_update.specs.declared.update.Update.{Update}
use Rattle.update_record.specs.declared.message.Attempt.{Attempt as Name}
use Rattle.target_state.specs.Rules.{same_attempt}
use Rattle.turn_laws.specs.Values.{Asked, Questions}
use Rattle.turn_laws.proofs.Points.{same_is, same_self}

abbrev pub Entries : Type 0
Entries = List (Option (List Update))

-- the first so many entries, and this one behind them
abbrev pub put_at : Entries → ℕ → Option (List Update) → Entries
put_at xs zero o = o ∷ []
put_at [] (suc n) o = None ∷ put_at [] n o
put_at (x ∷ xs) (suc n) o = x ∷ put_at xs n o

put_length : (xs : Entries) (n : ℕ) (o : Option (List Update)) → length (put_at xs n o) ≡ suc n
put_length xs zero o = refl
put_length [] (suc n) o = ap suc (put_length [] n o)
put_length (x ∷ xs) (suc n) o = ap suc (put_length xs n o)

put_here : (xs : Entries) (n : ℕ) (o : Option (List Update)) → get_or (put_at xs n o) n None ≡ o
put_here xs zero o = refl
put_here [] (suc n) o = put_here [] n o
put_here (x ∷ xs) (suc n) o = put_here xs n o

put_before : (xs : Entries) (n : ℕ) (o : Option (List Update)) (k : ℕ) → k < n → get_or (put_at xs n o) k None ≡ get_or xs k None
put_before xs zero o k l = absurd (omega (arith, l))
put_before [] (suc n) o zero l = refl
put_before [] (suc n) o (suc k) l = put_before [] n o k (omega (arith, l))
put_before (x ∷ xs) (suc n) o zero l = refl
put_before (x ∷ xs) (suc n) o (suc k) l = put_before xs n o k (omega (arith, l))

abbrev pub asking : Questions → Name → ℕ → Option (List Update) → Questions
asking asked by n o x = if same_attempt x by then put_at (asked x) n o else asked x

module _ (asked : Questions) (by : Name) (n : ℕ) (o : Option (List Update)) where
  pub asks_now : Asked (asking asked by n o) by (n + 1) o
  asks_now = subst (λ (xs : Entries). (1 ≤ n + 1) × (n + 1 ≤ length xs) × (get_or xs (n + 1 - 1) None ≡ o)) (sym (ap (λ b. if b then put_at (asked by) n o else asked by) (same_self by)))
      (omega arith, (let l = put_length (asked by) n o in omega (arith, l)), ap (λ k. get_or (put_at (asked by) n o) k None) (omega arith) ∙ put_here (asked by) n o)

  -- what was asked before stays asked
  pub still_asked : (x : Name) (ask : ℕ) (p : Option (List Update)) → (x ≡ by → ask ≤ n) → Asked asked x ask p → Asked (asking asked by n o) x ask p
  still_asked x ask p old h = by_test (same_attempt x by) refl
    where
      by_test : (b : Bool) → same_attempt x by ≡ b → Asked (asking asked by n o) x ask p
      by_test true e =
          let l = old (same_is x by e) in
          let some = h.0 in
          subst (λ (xs : Entries). (1 ≤ ask) × (ask ≤ length xs) × (get_or xs (ask - 1) None ≡ p)) (sym (ap (λ b. if b then put_at (asked x) n o else asked x) e))
          (some, (let k = put_length (asked x) n o in omega (arith, k, l)), put_before (asked x) n o (ask - 1) (omega (arith, l, some)) ∙ h.2)
      by_test false e = subst (λ (xs : Entries). (1 ≤ ask) × (ask ≤ length xs) × (get_or xs (ask - 1) None ≡ p)) (sym (ap (λ b. if b then put_at (asked x) n o else asked x) e)) h
