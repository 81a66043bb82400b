use Rattle.std.proofs.Common.{ap, ◌∙◌, ◌++◌, map, subst}
use Rattle.target_turns.specs.Disks.{calls_of}
use Rattle.cluster_core.specs.Cluster.{disks_of}
use Rattle.cluster_player.specs.Played.{Playing, disks_in}
use Rattle.cluster_player.specs.Disks.{AreKept}
use Rattle.cluster_player.proofs.Whole.{core_kept, keeps_whole, ordered_below, went_well}
use Rattle.cluster_player.proofs.player.Player.order.Goals as goal

pub invariant_of-self : goal.invariant_of-self
invariant_of-self g c =
    let inside = c.self.inside in
    let old = c.in-Some.core in
    let new = c.order-done.new.core in
    keeps_whole inside.cluster inside.requests inside.requests inside.core old new (map g.D.Disk.shown inside.disks.items) inside.spent c.is_err-self-inside.result c.in-Some.is c.order-done.ensures.keeps c.self.invariant
    (λ well. (let does = went_well c.order-done.result c.is_err-self-inside.result c.is_err-self-inside.ensures.value well c.order-done.ensures.does in
    ordered_below (calls_of g.D.Disk.cycled g.D.Plant.armed) inside.core old c.args.command.now new.cluster inside.requests c.in-Some.is does.0 does.1
    (c.self.invariant.sent (ap (λ (p : Playing). p.spent) c.self.view_is ∙ c.requires.going))))

pub returns-clause-kept : goal.returns-clause-kept
returns-clause-kept g c =
    let new = c.order-done.new.core in
    subst (λ (p : Playing). AreKept (disks_in p) (disks_of new.cluster.targets ++ new.spare)) c.self.view_is
    (core_kept c.self.inside.core c.in-Some.core new (map g.D.Disk.shown c.self.inside.disks.items) c.in-Some.is c.order-done.ensures.keeps)
