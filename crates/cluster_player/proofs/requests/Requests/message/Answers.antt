use Rattle.std.proofs.Common.{sym, ap, ◌∙◌}
use Rattle.std.specs.FinMap as map
use Rattle.std.specs.Ordering.{nat_cmp}
use Rattle.std.specs.Cmp.{nat_cmp_total}
use Rattle.tree_model.proofs.Maps.{got}
use Rattle.cluster_player.specs.Requests.{Messages}
use Rattle.cluster_player.proofs.requests.Requests.message.Goals as goal

pub returns : goal.returns
returns c =
    c.copied.ensures ∙ c.get.ensures.value ∙ sym (got nat_cmp nat_cmp_total c.self.inside.messages.entries c.args.number)
    ∙ ap (λ (m : Messages). map.get m c.args.number) c.self.view_is
