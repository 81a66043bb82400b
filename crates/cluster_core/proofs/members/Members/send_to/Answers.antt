use Rattle.std.proofs.Common.{◌++◌, ◌∷◌, [], List, ap, ◌∙◌}
use Rattle.std.proofs.lemmas.Result.{on_ok_weaker}
use Rattle.cluster_mail.specs.Mail.{Sent, fresh}
use Rattle.cluster_core.specs.Cluster.{Cluster}
use Rattle.cluster_core.specs.Commands.{sends}
use Rattle.cluster_core.proofs.members.Members.send_to.Goals as goal

pub returns-clause-after : goal.returns-clause-after
returns-clause-after g c =
    on_ok_weaker c.post.result
    (λ e.
    ap (λ (ss : List Sent). record { targets = c.self.inside.targets.items; sent = ss }) (e ∙ ap (λ m. c.self.inside.mail ++ fresh m ∷ []) c.in_ok-message.ensures.value)
    ∙ ap (λ (x : Cluster). sends x c.args.home c.args.request.now) c.self.view_is)
    c.post.ensures.ok
