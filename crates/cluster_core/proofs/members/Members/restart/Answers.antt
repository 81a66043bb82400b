use Rattle.std.proofs.Common.{◌∷◌, [], List, set, refl, sym, ap, ◌∙◌, subst}
use Rattle.std.proofs.lemmas.Result.{on_ok_weaker}
use Rattle.cluster_mail.specs.Mail.{Sent}
use Rattle.target_turns.specs.Target.{Target}
use Rattle.target_turns.specs.Founding.{Restarts}
use Rattle.target_turns.specs.Disks.{calls_of}
use Rattle.cluster_core.specs.Cluster.{Cluster, target_at}
use Rattle.cluster_core.proofs.Placed.{turn_placed, turn_touched, turn_put, was_there, is_there}
use Rattle.cluster_core.proofs.members.Members.restart.Goals as goal

-- src/members.rt:73:5
pub invariant_of-self : goal.invariant_of-self
invariant_of-self g c =
    turn_placed c.args.self.now.targets c.self.inside.targets.items c.args.target c.index_mut.result.now c.restart.new.self (ap (λ (x : Cluster). x.targets) c.self.view_is) c.requires c.index_mut.ensures.value
    c.self.inside.cluster c.self.invariant c.restart.ensures.place

-- src/members.rt:73:5
pub returns-clause-does : goal.returns-clause-does
returns-clause-does g c =
    let was = was_there c.args.self.now.targets c.self.inside.targets.items c.args.target c.index_mut.result.now c.restart.new.self (ap (λ (x : Cluster). x.targets) c.self.view_is) c.requires c.index_mut.ensures.value in
    let there = is_there c.args.self.now.targets c.self.inside.targets.items c.args.target c.index_mut.result.now c.restart.new.self (ap (λ (x : Cluster). x.targets) c.self.view_is) c.requires c.index_mut.ensures.value in
    let put = turn_put c.args.self.now.targets c.self.inside.targets.items c.args.target c.index_mut.result.now c.restart.new.self (ap (λ (x : Cluster). x.targets) c.self.view_is) c.requires c.index_mut.ensures.value in
    let kept = ap (λ (x : Cluster). x.sent) c.self.view_is in
    let calls = calls_of g.D.Disk.cycled g.D.Plant.armed in
    on_ok_weaker c.restart.result
    (λ h. (
      h.0 ∷ [],
      record {
        line = h.0;
        does = subst (λ (t : Target). Restarts calls t h.0 (target_at (set c.self.inside.targets.items c.args.target c.restart.new.self) c.args.target)) was (subst (λ (t : Target). Restarts calls c.index_mut.result.now h.0 t) (sym there) h.1);
        after = ap (λ (ss : List Sent). record { targets = set c.self.inside.targets.items c.args.target c.restart.new.self; sent = ss }) kept ∙ put c.args.self.now.sent;
        lines_are = refl;
      },
      h.2,
    ))
    c.restart.ensures.does

-- src/members.rt:73:5
pub returns-clause-touched : goal.returns-clause-touched
returns-clause-touched g c =
    turn_touched c.args.self.now.targets c.self.inside.targets.items c.args.target c.index_mut.result.now c.restart.new.self (ap (λ (x : Cluster). x.targets) c.self.view_is) c.requires c.index_mut.ensures.value
    c.restart.ensures.touches
