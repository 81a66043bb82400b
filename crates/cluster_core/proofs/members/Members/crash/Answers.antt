use Rattle.std.proofs.Common.{◌++◌, List, map, set, sym, ap, ap₂, ◌∙◌, subst, append-nil}
use Rattle.std.proofs.lemmas.Result.{on_ok_weaker}
use Rattle.cluster_mail.specs.Mail.{Sent, fresh}
use Rattle.target_turns.specs.Target.{Target}
use Rattle.target_turns.specs.Touching.{Touches}
use Rattle.target_turns.specs.Founding.{crashes}
use Rattle.outside.specs.Disk.{Shown}
use Rattle.cluster_core.specs.Cluster.{Cluster, target_at}
use Rattle.cluster_core.proofs.Placed.{turn_placed, turn_touched, was_there, touches_same, crash_silent}
use Rattle.cluster_core.proofs.members.Members.crash.Goals as goal

-- src/members.rt:53:5
pub invariant_of-self : goal.invariant_of-self
invariant_of-self g c =
    turn_placed c.args.self.now.targets c.self.inside.targets.items c.args.target c.index_mut.result.now c.crash.new.self (ap (λ (x : Cluster). x.targets) c.self.view_is) c.requires c.index_mut.ensures.value
    c.self.inside.cluster c.self.invariant c.crash.ensures.place

-- src/members.rt:53:5
pub returns-clause-after : goal.returns-clause-after
returns-clause-after g c =
    let was = was_there c.args.self.now.targets c.self.inside.targets.items c.args.target c.index_mut.result.now c.crash.new.self (ap (λ (x : Cluster). x.targets) c.self.view_is) c.requires c.index_mut.ensures.value in
    let items = ap (λ (x : Cluster). x.targets) c.self.view_is in
    let silent = crash_silent (target_at c.args.self.now.targets c.args.target) in
    on_ok_weaker c.crash.result
    (λ e.
    ap₂ (λ (xs : List Target) (ss : List Sent). record { targets = xs; sent = ss })
    (ap₂ (λ (xs : List Target) (t : Target). set xs c.args.target t) items (e ∙ ap (λ (t : Target). (crashes t).target) was))
    (ap (λ (x : Cluster). x.sent) c.self.view_is ∙ sym (append-nil c.args.self.now.sent) ∙ ap (λ ms. c.args.self.now.sent ++ map fresh ms) (sym silent)))
    c.crash.ensures.after

-- src/members.rt:53:5
pub returns-clause-touched : goal.returns-clause-touched
returns-clause-touched g c =
    turn_touched c.args.self.now.targets c.self.inside.targets.items c.args.target c.index_mut.result.now c.crash.new.self (ap (λ (x : Cluster). x.targets) c.self.view_is) c.requires c.index_mut.ensures.value
    (subst (λ (s : Shown). Touches c.index_mut.result.now.disk s) (sym c.crash.ensures.disk) (touches_same c.index_mut.result.now.disk))
