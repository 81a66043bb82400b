use Rattle.std.proofs.Common.{◌++◌, map, subst}
use Rattle.cluster_core.specs.Cluster.{disks_of}
use Rattle.cluster_player.specs.Played.{Playing, disks_in}
use Rattle.cluster_player.specs.Disks.{AreKept}
use Rattle.cluster_player.proofs.Whole.{core_kept}
use Rattle.cluster_player.proofs.player.Player.again.Goals as goal

pub returns-clause-kept : goal.returns-clause-kept
returns-clause-kept g c =
    let new = c.again-done.new.core in
    subst (λ (p : Playing). AreKept (disks_in p) (disks_of new.cluster.targets ++ new.spare)) c.self.view_is
    (core_kept c.self.inside.core c.in-Some.core new (map g.D.Disk.shown c.self.inside.disks.items) c.in-Some.is c.again-done.ensures.keeps)
