use Rattle.std.proofs.Common.{List, sym, subst}
use Rattle.target_turns.specs.Target.{Target}
use Rattle.cluster_core.specs.Cluster.{ArePlaced}
use Rattle.cluster_core.proofs.Seated.{unfounded_placed}
use Rattle.cluster_core.proofs.cluster.Core.new.Goals as goal

-- src/cluster.rt:80:12
pub invariant_of-result : goal.invariant_of-result
invariant_of-result g c =
    let seats = c.seat.ensures.seats in
    subst (λ (ts : List Target). ArePlaced c.args.cluster ts) (sym seats.3) (unfounded_placed c.args.cluster seats.0 seats.2)
