use Rattle.std.proofs.Common.{List, ap, ◌∙◌}
use Rattle.std.proofs.lemmas.Result.{on_ok_weaker}
use Rattle.cluster_mail.specs.Mail.{Sent}
use Rattle.cluster_core.specs.Cluster.{Cluster}
use Rattle.cluster_core.specs.Commands.{sends_again}
use Rattle.cluster_core.proofs.members.Members.send_again.Goals as goal

pub returns-clause-after : goal.returns-clause-after
returns-clause-after g c =
    on_ok_weaker c.post_again.result
    (λ e. ap (λ (ss : List Sent). record { targets = c.self.inside.targets.items; sent = ss }) e ∙ ap (λ (x : Cluster). sends_again x c.args.k) c.self.view_is)
    c.post_again.ensures.ok
