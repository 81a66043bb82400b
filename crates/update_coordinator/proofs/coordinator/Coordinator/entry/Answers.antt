use Rattle.std.proofs.Common.{◌≡◌, ◌<◌, ◌≤◌, ◌+◌, ◌^◌, ℕ, length, subst, rules}
use Rattle.update_coordinator.specs.Fitting.{IsPlanned}
use Rattle.update_coordinator.proofs.Recorded.{recorded}
use Rattle.update_coordinator.proofs.coordinator.Coordinator.entry.Goals as goal

pub returns-clause-fits : goal.returns-clause-fits
returns-clause-fits c =
    let home = c.args.self.now in
    let k = c.args.course.now in
    let i = c.self.inside in
    let same : home.master ≡ i.master = search rules in
    let count : length home.batches ≡ c.len.result = search rules in
    let master : i.master < 16 = search rules in
    let set : 1 ≤ c.epoch.result = search rules in
    let below : c.epoch.result < 2 ^ 32 = search rules in
    let room : c.len.result + 1 < 2 ^ 64 = search rules in
    let stamp : c.stamp_of.result < 2 ^ 64 = search rules in
    let planned = subst (λ (m : ℕ). IsPlanned home.targets m (length home.batches + 1) k.planner k.request) same c.requires.fits.1 in
    let counted = subst (λ (n : ℕ). IsPlanned home.targets i.master (n + 1) k.planner k.request) count planned in
    recorded home.targets i.master c.len.result c.epoch.result c.stamp_of.result k.planner k.request c.args.decision master set below room c.stamp_of.ensures.set stamp counted c.requires.decision.0.1 c.requires.decision.1
