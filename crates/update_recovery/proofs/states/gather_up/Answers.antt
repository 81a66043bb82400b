use Rattle.std.proofs.Common.{◌≡◌, ◌++◌, Err, List, ℕ, take, map, refl, ap, subst, ◌∙◌}
use Rattle.target_node.specs.Node.{NodeState}
use Rattle.update_recovery.specs.declared.standing.Standing.TheVariants as standing
use Rattle.update_recovery.specs.Steps.{WhereHalted, told_from}
use Rattle.update_recovery.specs.Gathering.{Gathers, KeepsAll, stable_at}
use Rattle.update_recovery.specs.States.{HandsBack, HasAll}
use Rattle.update_recovery.proofs.Begun.{hands_stopped, gathered_idle}
use Rattle.update_recovery.proofs.Coming.{lost_none}
use Rattle.update_recovery.proofs.states.gather_up.Goals as goal

pub returns-in-Err-clause-stopped : goal.returns-in-Err-clause-stopped
returns-in-Err-clause-stopped g c =
    hands_stopped g.D.Disk.shown c.args.targets.items c.gather_targets-gathered.new.targets.items c.in-Err.halt (record { stable = c.gather_targets-gathered.new.stable; redone = c.args.report.redone }) c.stopped.result
    c.in-Err.ensures.stopped
    (subst (λ (l : List (ℕ × List ℕ)). WhereHalted {T = Unit {0}} (Err c.in-Err.halt) (λ place. c.gather_targets-gathered.new.stable ≡ l ++ told_from stable_at 0 (take place c.args.targets.items))) c.requires.none.0 c.in-Err.ensures.told_before)
    c.requires.none.1
    (subst (λ (ns : List (NodeState g.row.D.Denot)). HandsBack c.in-Err.halt ns (record { stable = c.gather_targets-gathered.new.stable; redone = c.args.report.redone }) c.stopped.result) c.of-nodes.ensures.nodes c.stopped.ensures.hands)

pub returns-in-Err-union_of-clause-lost : goal.returns-in-Err-union_of-clause-lost
returns-in-Err-union_of-clause-lost g c = record {
  targets = c.gather_targets-gathered.new.targets.items;
  came = lost_none (Gathers g.D.Disk.shown) KeepsAll _ c.args.targets.items c.gather_targets-gathered.new.targets.items (λ k o. refl) c.in-Ok.ensures.done;
  handed_are = c.opened.ensures.items ∙ ap (λ (ns : List (NodeState g.row.D.Denot)). map standing.Opened ns) c.of-nodes.ensures.nodes;
}

pub returns-in-Ok-union_of-clause-done : goal.returns-in-Ok-union_of-clause-done
returns-in-Ok-union_of-clause-done g c =
    let old = c.args.targets.items in
    let targets = c.gather_targets-gathered.new.targets.items in
    let came = c.in-Ok.ensures.done in
    record {
      targets = targets;
      came = came;
      stopped = c.of-nodes.ensures.nodes;
      long = c.of-nodes.ensures.long ∙ came.long;
      idle = gathered_idle g.D.Disk.shown old targets c.of-nodes.result came c.of-nodes.ensures.nodes;
      taken = c.in-Ok-union_of.ensures.taken;
      above = c.in-Ok-union_of.ensures.above;
      stable = subst (λ (l : List (ℕ × List ℕ)). c.gather_targets-gathered.new.stable ≡ l ++ told_from stable_at 0 old) c.requires.none.0 c.in-Ok.ensures.told;
      redone = c.requires.none.1;
    }

pub returns-in-Err-clause-long : goal.returns-in-Err-clause-long
returns-in-Err-clause-long g c = subst (λ (n : ℕ). HasAll n c.stopped.result) (c.of-nodes.ensures.long ∙ c.in-Err.ensures.long) c.stopped.ensures.long

pub returns-in-Err-union_of-clause-long : goal.returns-in-Err-union_of-clause-long
returns-in-Err-union_of-clause-long g c = c.opened.ensures.long ∙ c.of-nodes.ensures.long ∙ c.in-Ok.ensures.long

pub invariant_of-result : goal.invariant_of-result
invariant_of-result g c =
    gathered_idle g.D.Disk.shown c.args.targets.items c.gather_targets-gathered.new.targets.items c.of-nodes.result c.in-Ok.ensures.done c.of-nodes.ensures.nodes
