-- What a target notes of attempts of its own.
use Rattle.std.proofs.Common.{◌≡◌, ◌≤◌, ◌==◌, max, zero, suc, get_or, set, ℕ, Bool, true, false, if◌then◌else◌, List, [], ◌∷◌, Option, Some, None, refl, sym, ap, subst}
use Rattle.std.proofs.Math.Nat.{max-le}
use Rattle.update_record.specs.declared.message.Attempt.{Attempt as Name}
use Rattle.update_record.specs.declared.operation.Record.{Record}
use Rattle.target_state.specs.Rules.{after_execute, after_hold, after_release, executed, gives_way, held_as, is_held_by, is_past, let_go, same_attempt, taken, taken_at, with_ended}
use Rattle.target_state.specs.State.{TargetState}
use Rattle.target_state.specs.declared.holding.Taking.{Taking}
use Rattle.target_state.specs.declared.holding.Taking.TheVariants.{Busy, Comes, Ended, Stays, TakesOver}
use Rattle.turn_laws.proofs.Points.{none_name, some_name}
use Rattle.home_laws.specs.Asking.{NotesBegun}

set_below : (xs : List ℕ) (i j v n : ℕ) → get_or xs j 0 ≤ n → (i ≡ j → v ≤ n) → get_or (set xs i v) j 0 ≤ n
set_below [] i j v n l h = l
set_below (x ∷ xs) zero zero v n l h = h refl
set_below (x ∷ xs) zero (suc j) v n l h = l
set_below (x ∷ xs) (suc i) zero v n l h = l
set_below (x ∷ xs) (suc i) (suc j) v n l h = set_below xs i j v n l (λ e. h (ap suc e))

ended_below : (ended : List ℕ) (by : Name) (t n : ℕ) → get_or ended t 0 ≤ n → (by.master ≡ t → by.attempt ≤ n) → get_or (with_ended ended by) t 0 ≤ n
ended_below ended by t n l own = set_below ended by.master t (max (get_or ended by.master 0) by.attempt) n l
    (λ e. max-le (subst (λ m. get_or ended m 0 ≤ n) (sym e) l) (own e))

taking_other : (o : Name) (h : Name) (same past way : Bool) → (if same then Stays else (if past then Ended else (if way then TakesOver h else Busy h.number))) ≡ TakesOver o → h ≡ o
taking_other o h true past way e = cc
taking_other o h false true way e = cc
taking_other o h false false true e = cc
taking_other o h false false false e = cc

-- who is taken over held it
held_before : (s : TargetState) (by o : Name) → taken s by ≡ TakesOver o → s.holder ≡ Some o
held_before s by o e = by_epoch (by.epoch == s.epoch) e
  where
    by_past : (b : Bool) → (if b then Ended else Comes) ≡ TakesOver o → None ≡ Some o
    by_past true z = cc
    by_past false z = cc

    by_holder : (h : Option Name) → taken_at h s.ended by ≡ TakesOver o → h ≡ Some o
    by_holder None z = by_past (is_past s.ended by) z
    by_holder (Some h) z = ap (λ (y : Name). Some y) (taking_other o h (same_attempt h by) (is_past s.ended by) (gives_way h by) z)

    by_epoch : (b : Bool) → (if b then taken_at s.holder s.ended by else Ended) ≡ TakesOver o → s.holder ≡ Some o
    by_epoch true z = by_holder s.holder z
    by_epoch false z = cc

module _ (t n : ℕ) (s : TargetState) (by : Name) (notes : NotesBegun t n s) (own : by.master ≡ t → by.attempt ≤ n) where
  new_holder : (x : Name) → ◌≡◌ {A = Option Name} (Some by) (Some x) → x.master ≡ t → x.attempt ≤ n
  new_holder x e m = subst (λ (y : Name). y.master ≡ t → y.attempt ≤ n) (some_name by x e) own m

  pub gone : NotesBegun t n (let_go s by)
  gone = record { held = λ x e m. absurd (none_name x e); ended = ended_below s.ended by t n notes.ended own }

  pub hold_notes : NotesBegun t n (after_hold s by)
  hold_notes = by_taking (taken s by) refl
    where
      by_taking : (k : Taking) → taken s by ≡ k → NotesBegun t n (held_as s by k)
      by_taking Comes e = record { held = new_holder; ended = notes.ended }
      by_taking Stays e = notes
      by_taking (TakesOver o) e = record { held = new_holder; ended = ended_below s.ended o t n notes.ended (notes.held o (held_before s by o e)) }
      by_taking (Busy k) e = notes
      by_taking Ended e = notes

  pub release_notes : NotesBegun t n (after_release s by)
  release_notes = by_tests (by.epoch == s.epoch) (is_held_by s.holder by) (is_past s.ended by)
    where
      by_tests : (a b d : Bool) → NotesBegun t n (if a then (if b then let_go s by else (if d then s else record s { ended = with_ended s.ended by })) else s)
      by_tests true true d = gone
      by_tests true false true = notes
      by_tests true false false = record { held = notes.held; ended = ended_below s.ended by t n notes.ended own }
      by_tests false b d = notes

  pub execute_notes : (r : Record) → NotesBegun t n (after_execute s by r)
  execute_notes r = by_test (is_held_by s.holder by)
    where
      by_test : (b : Bool) → NotesBegun t n (if b then executed s by r else s)
      by_test true = record { held = λ x e m. absurd (none_name x e); ended = ended_below s.ended by t n notes.ended own }
      by_test false = notes

pub hold_epoch : (s : TargetState) (by : Name) → (after_hold s by).epoch ≡ s.epoch
hold_epoch s by = by_taking (taken s by)
  where
    by_taking : (k : Taking) → (held_as s by k).epoch ≡ s.epoch
    by_taking Comes = refl
    by_taking Stays = refl
    by_taking (TakesOver o) = refl
    by_taking (Busy n) = refl
    by_taking Ended = refl
