-- What a step at home says of the target before and after it.
use Rattle.std.specs.Prelude.{◌≡◌, Some, None}
use Rattle.update_coordinator.specs.declared.words.Action.{Action}
use Rattle.update_coordinator.specs.Fitting.{FitsAction}
use Rattle.target_turns.specs.declared.home.Step.{Step}
use Rattle.target_turns.specs.declared.home.Step.TheVariants as step
use Rattle.target_turns.specs.Target.{Target}
use Rattle.target_turns.specs.Home.{Walked, step_at_home, walks}

-- one step
pub record Goes (old new : Target) (action next : Action) : Type 0 where
  pub is : step_at_home old action ≡ Some (record { target = new; action = next })
  pub fits : FitsAction next

-- none
pub record Rests (old new : Target) (action next : Action) : Type 0 where
  pub is : step_at_home old action ≡ None
  pub same : next ≡ action
  pub after : new ≡ old

abbrev pub Steps : Target → Target → Action → Step → Type 0
Steps old new action (step.Goes next) = Goes old new action next
Steps old new action (step.Rests next) = Rests old new action next

-- all of them
pub record Walks (old new : Target) (action last : Action) : Type 0 where
  pub is : walks old action ≡ record { target = new; action = last }
  pub fits : FitsAction last
