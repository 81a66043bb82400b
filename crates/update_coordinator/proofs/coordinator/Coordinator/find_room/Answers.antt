use Rattle.std.proofs.Common.{◌≡◌, ℕ, Option, None, IfOk, OnOk, subst, rules}
use Rattle.update_coordinator.specs.declared.words.Action.{Action}
use Rattle.update_coordinator.specs.Rules.{full, room_for, rooms}
use Rattle.update_coordinator.proofs.coordinator.Coordinator.find_room.Goals as goal

pub returns-in-None-clause-action : goal.returns-in-None-clause-action
unfolding rooms
returns-in-None-clause-action c =
    let none : None ≡ full (room_for c.args.course.request.op) c.args.course.held c.args.decision.parts = search rules in
    subst (λ (x : Option (ℕ × ℕ)). IfOk c.sync.result (λ (a : Action). a ≡ (rooms c.args.self.now c.args.course c.args.decision c.args.synced x).action)) none c.sync.ensures.action

pub returns-in-None-clause-after : goal.returns-in-None-clause-after
unfolding rooms
returns-in-None-clause-after c =
    let none : None ≡ full (room_for c.args.course.request.op) c.args.course.held c.args.decision.parts = search rules in
    subst (λ (x : Option (ℕ × ℕ)). OnOk c.sync.result (c.sync.new.self ≡ (rooms c.args.self.now c.args.course c.args.decision c.args.synced x).after)) none c.sync.ensures.after
