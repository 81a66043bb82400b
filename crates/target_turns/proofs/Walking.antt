-- Steps at home, one after another.
use Rattle.std.proofs.Common.{◌≡◌, ℕ, zero, suc, ◌+◌, ◌-◌, ◌<◌, Option, Some, None, refl, sym, ap, ap₂, ◌∙◌, arith}
use Rattle.update_coordinator.specs.declared.words.Action.{Action}
use Rattle.target_turns.specs.Target.{Target}
use Rattle.target_turns.specs.Home.{Walked, step_at_home, then_walks, walked}

pub walked_rests : (n : ℕ) (t : Target) (a : Action) → step_at_home t a ≡ None → walked n t a ≡ record { target = t; action = a }
unfolding walked
walked_rests zero t a e = refl
walked_rests (suc n) t a e = ap (λ (o : Option Walked). then_walks o (record { target = t; action = a }) (λ w. walked n w.target w.action)) e

pub walked_goes : (n : ℕ) (t : Target) (a : Action) (w : Walked) → step_at_home t a ≡ Some w → walked (suc n) t a ≡ walked n w.target w.action
unfolding walked
walked_goes n t a w e = ap (λ (o : Option Walked). then_walks o (record { target = t; action = a }) (λ w. walked n w.target w.action)) e

-- a loop of so many steps has made some of them
pub one_goes : (i : ℕ) (t u : Target) (a b : Action) (whole : Walked) → i < 18446744073709551615 → step_at_home t a ≡ Some (record { target = u; action = b }) → walked (18446744073709551615 - i) t a ≡ whole → walked (18446744073709551615 - (i + 1)) u b ≡ whole
one_goes i t u a b whole lt e w =
    let left : 18446744073709551615 - i ≡ suc (18446744073709551615 - (i + 1)) = omega arith in
    sym (walked_goes (18446744073709551615 - (i + 1)) t a (record { target = u; action = b }) e) ∙ ap (λ (n : ℕ). walked n t a) (sym left) ∙ w

pub one_rests : (i : ℕ) (t u : Target) (a b : Action) (whole : Walked) → step_at_home t a ≡ None → b ≡ a → u ≡ t → walked (18446744073709551615 - i) t a ≡ whole → whole ≡ record { target = u; action = b }
one_rests i t u a b whole e same here w = sym w ∙ walked_rests (18446744073709551615 - i) t a e ∙ ap₂ (λ (x : Target) (y : Action). record { target = x; action = y }) (sym here) (sym same)
