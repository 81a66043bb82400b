use Rattle.std.proofs.Common.{ap, ◌∙◌}
use Rattle.std.specs.FinMap as map
use Rattle.std.specs.Ordering.{nat_cmp}
use Rattle.std.specs.Cmp.{nat_cmp_total}
use Rattle.std.proofs.lemmas.Map.Lookups.{exact_unsigned}
use Rattle.tree_model.proofs.Maps.{put}
use Rattle.cluster_player.specs.Requests.{Messages}
use Rattle.cluster_player.proofs.requests.Requests.note.Goals as goal

pub returns-clause-ok : goal.returns-clause-ok
returns-clause-ok c =
    put nat_cmp nat_cmp_total exact_unsigned c.self.inside.messages.entries c.insert.new.self.entries c.args.number c.args.message c.in_ok-insert.ensures.updates.0
    ∙ ap (λ (m : Messages). map.insert m c.args.number c.args.message) c.self.view_is
