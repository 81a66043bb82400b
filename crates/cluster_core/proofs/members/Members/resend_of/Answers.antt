use Rattle.std.proofs.Common.{◌++◌, List, map, ap, ap₂, ◌∙◌}
use Rattle.std.proofs.lemmas.Result.{on_ok_weaker}
use Rattle.cluster_mail.specs.Mail.{Sent, fresh}
use Rattle.target_turns.specs.Target.{Target}
use Rattle.target_turns.specs.Commanded.{resends}
use Rattle.cluster_core.specs.Cluster.{Cluster}
use Rattle.cluster_core.proofs.Placed.{was_there}
use Rattle.cluster_core.proofs.members.Members.resend_of.Goals as goal

pub returns-clause-after : goal.returns-clause-after
returns-clause-after g c =
    let was = was_there c.args.self.now.targets c.self.inside.targets.items c.args.target c.index.result.now c.index.result.now (ap (λ (x : Cluster). x.targets) c.self.view_is) c.requires c.index.ensures in
    on_ok_weaker c.resend.result
    (λ e.
    ap₂ (λ (xs : List Target) (ss : List Sent). record { targets = xs; sent = ss }) (ap (λ (x : Cluster). x.targets) c.self.view_is)
    (e ∙ ap₂ (λ (ss : List Sent) (t : Target). ss ++ map fresh (resends t)) (ap (λ (x : Cluster). x.sent) c.self.view_is) was))
    c.resend.ensures
