-- The writer that the scan gives is that of the first object that asks for a commit.
use Rattle.std.proofs.Common.{◌≡◌, ℕ, ◌==◌, Bool, true, false, List, [], ◌∷◌, Option, Some, None, if◌then◌else◌, refl, sym, ap, ◌∙◌}
use Rattle.std.proofs.lemmas.Bool.{true≢false, eqb-true, eq-eqb}
use Rattle.fid_space.specs.Targets.{covers}
use Rattle.commit_sharing.specs.declared.sharing.Seen.{Seen}
use Rattle.commit_sharing.specs.Sharing.{uncovered, asked, or_else, must_sync, Asks, IsFirst, SyncsAreFirst}

module _ (on target : ℕ) where
  -- what one object asks for
  abbrev pub Answer : Seen → Option ℕ → Type 0
  Answer s None = (n : ℕ) → Asks s on target n → ⊥
  Answer s (Some n) = Asks s on target n

  abbrev pub cover_of : Option (ℕ × ℕ) → Bool
  cover_of None = true
  cover_of (Some w) = covers w.1 on

  quiet : (s : Seen) → cover_of s.writer ≡ true → Answer s None
  quiet s c n a = true≢false (sym c ∙ ap cover_of a.2 ∙ a.3)

  by_cover : (s : Seen) (w : ℕ × ℕ) (b : Bool) → s.target ≡ target → s.writer ≡ Some w → covers w.1 on ≡ b → Answer s (if b then None else Some w.0)
  by_cover s w true same e c = quiet s (ap cover_of e ∙ c)
  by_cover s w false same e c = (w.1, same, e, c)

  covered : (s : Seen) (w : Option (ℕ × ℕ)) → s.target ≡ target → s.writer ≡ w → Answer s (uncovered w on)
  covered s None same e = quiet s (ap cover_of e)
  covered s (Some w) same e = by_cover s w (covers w.1 on) same e refl

  by_target : (s : Seen) (b : Bool) → (s.target == target) ≡ b → Answer s (if b then uncovered s.writer on else None)
  by_target s true h = covered s s.writer (eqb-true s.target target h) refl
  by_target s false h = λ n a. true≢false (sym (eq-eqb s.target target a.1) ∙ h)

  step : (s : Seen) (ss : List Seen) (o r : Option ℕ) → Answer s o → IsFirst ss on target r → IsFirst (s ∷ ss) on target (or_else o r)
  step s ss None None q all = (q, all)
  step s ss None (Some n) q (before, t, after, e, none, asks) = (s ∷ before, t, after, ap (λ xs. s ∷ xs) e, (q, none), asks)
  step s ss (Some n) r a rest = ([], s, ss, refl, tt, a)

pub is_first : SyncsAreFirst
is_first [] on target = tt
is_first (s ∷ ss) on target = step on target s ss (asked s on target) (must_sync ss on target) (by_target on target s (s.target == target) refl) (is_first ss on target)
