use Rattle.std.proofs.Common.{◌≡◌, ℕ, Option, None, IfOk, OnOk, subst, rules}
use Rattle.update_coordinator.specs.declared.words.Action.{Action}
use Rattle.update_coordinator.specs.Rules.{unheld, holds}
use Rattle.update_coordinator.proofs.coordinator.Coordinator.settle.Goals as goal

pub returns-in-None-clause-action : goal.returns-in-None-clause-action
unfolding holds
returns-in-None-clause-action c =
    let none : None ≡ unheld c.args.course.held c.args.decision.parts = search rules in
    subst (λ (x : Option ℕ). IfOk c.find_room.result (λ (a : Action). a ≡ (holds c.args.self.now c.args.course c.args.decision c.args.synced x).action)) none c.find_room.ensures.action

pub returns-in-None-clause-after : goal.returns-in-None-clause-after
unfolding holds
returns-in-None-clause-after c =
    let none : None ≡ unheld c.args.course.held c.args.decision.parts = search rules in
    subst (λ (x : Option ℕ). OnOk c.find_room.result (c.find_room.new.self ≡ (holds c.args.self.now c.args.course c.args.decision c.args.synced x).after)) none c.find_room.ensures.after
