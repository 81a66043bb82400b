use Rattle.std.proofs.Common.{◌≡◌, ℕ, Option, None, OnOk, subst, rules}
use Rattle.update_coordinator.specs.Rules.{next_sync, syncs}
use Rattle.update_coordinator.proofs.coordinator.Coordinator.sync.Goals as goal

pub returns-in-None-clause-after : goal.returns-in-None-clause-after
unfolding syncs
returns-in-None-clause-after c =
    let none : None ≡ next_sync c.args.course.seen c.args.decision.on c.args.synced = search rules in
    subst (λ (x : Option (ℕ × ℕ)). OnOk c.accept-result.result (c.accept-result.new.self ≡ (syncs c.args.self.now c.args.course c.args.decision c.args.synced x).after)) none c.accept-result.ensures.after
