use Rattle.std.proofs.Common.{List, set, sym, ap, ◌∙◌, subst}
use Rattle.std.proofs.lemmas.Result.{on_ok_weaker}
use Rattle.cluster_mail.specs.Mail.{Sent}
use Rattle.target_turns.specs.Target.{Target}
use Rattle.target_turns.specs.Founding.{Founds}
use Rattle.cluster_core.specs.Cluster.{Cluster, target_at}
use Rattle.cluster_core.proofs.Placed.{turn_placed, turn_touched, turn_put, was_there, is_there}
use Rattle.cluster_core.proofs.members.Members.found_one.Goals as goal

pub invariant_of-self : goal.invariant_of-self
invariant_of-self g c =
    turn_placed c.args.self.now.targets c.self.inside.targets.items c.args.target c.index_mut.result.now c.found.new.self (ap (λ (x : Cluster). x.targets) c.self.view_is) c.requires c.index_mut.ensures.value
    c.self.inside.cluster c.self.invariant c.found.ensures.place

pub returns-clause-does : goal.returns-clause-does
returns-clause-does g c =
    let was = was_there c.args.self.now.targets c.self.inside.targets.items c.args.target c.index_mut.result.now c.found.new.self (ap (λ (x : Cluster). x.targets) c.self.view_is) c.requires c.index_mut.ensures.value in
    let there = is_there c.args.self.now.targets c.self.inside.targets.items c.args.target c.index_mut.result.now c.found.new.self (ap (λ (x : Cluster). x.targets) c.self.view_is) c.requires c.index_mut.ensures.value in
    let put = turn_put c.args.self.now.targets c.self.inside.targets.items c.args.target c.index_mut.result.now c.found.new.self (ap (λ (x : Cluster). x.targets) c.self.view_is) c.requires c.index_mut.ensures.value in
    let kept = ap (λ (x : Cluster). x.sent) c.self.view_is in
    on_ok_weaker c.found.result
    (λ h.
    record {
      founds = subst (λ (t : Target). Founds t (target_at (set c.self.inside.targets.items c.args.target c.found.new.self) c.args.target)) was (subst (λ (t : Target). Founds c.index_mut.result.now t) (sym there) h);
      after = ap (λ (ss : List Sent). record { targets = set c.self.inside.targets.items c.args.target c.found.new.self; sent = ss }) kept ∙ put c.args.self.now.sent;
    })
    c.found.ensures.founds

pub returns-clause-touched : goal.returns-clause-touched
returns-clause-touched g c =
    turn_touched c.args.self.now.targets c.self.inside.targets.items c.args.target c.index_mut.result.now c.found.new.self (ap (λ (x : Cluster). x.targets) c.self.view_is) c.requires c.index_mut.ensures.value
    c.found.ensures.touches
