-- An attempt that holds a target, in its epoch, stays.
use Rattle.std.proofs.Common.{◌≡◌, ℕ, Bool, true, false, ◌==◌, if◌then◌else◌, List, Option, Some, None, ap, ◌∙◌}
use Rattle.update_record.specs.declared.message.Attempt.{Attempt}
use Rattle.target_state.specs.declared.holding.Taking.{Taking}
use Rattle.target_state.specs.declared.holding.Taking.TheVariants.{Stays, Ended, TakesOver, Busy}
use Rattle.target_state.specs.State.{TargetState}
use Rattle.target_state.specs.Rules.{same_attempt, is_past, gives_way, is_held_by, held_taking, taken_at, taken}

stays_at : (holder : Option Attempt) (ended : List ℕ) (by : Attempt) → is_held_by holder by ≡ true → taken_at holder ended by ≡ Stays
stays_at None ended by e = absurd cc
stays_at (Some h) ended by e = ap (λ (same : Bool). if same then Stays else (if is_past ended by then Ended else (if gives_way h by then TakesOver h else Busy h.number))) e

pub stays : (s : TargetState) (by : Attempt) → (by.epoch == s.epoch) ≡ true → is_held_by s.holder by ≡ true → taken s by ≡ Stays
stays s by epoch held = ap (λ (now : Bool). if now then taken_at s.holder s.ended by else Ended) epoch ∙ stays_at s.holder s.ended by held
