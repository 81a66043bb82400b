use Rattle.dne_cli.specs.Kept.{Kept, Restarts, standing_of}
use Rattle.dne_cli.specs.Disks.{calls_of}
use Rattle.dne_cli.specs.Restart.{held_of}
use Rattle.dne_cli.specs.Session.{target_of}
use Rattle.dne_cli.proofs.Sessions.{carried, taken_out}
use Rattle.dne_cli.proofs.session.Session.restart.Goals as goal

pub returns-clause-does : goal.returns-clause-does
returns-clause-does g c =
    let shown = g.D.Disk.shown in
    let inside = c.self.inside in
    let view : Kept = record { cluster = inside.cluster; ended = inside.ended; used = inside.used.items; waiting = inside.waiting.items; target = target_of shown inside.target } in
    let now = c.restart_target-target.result in
    carried now.1 (λ k t. record k { target = t }) (λ old new ls. Restarts (calls_of g.D.Disk.cycled g.D.Plant.armed) (standing_of old) old.formatted c.args.number old new ls) view c.args.self.now (held_of shown c.in-Some.target) (held_of shown now.0) c.args.out.now c.restart_target-target.new.out c.self.view_is
    (taken_out shown inside.target c.take.result c.in-Some.target c.take.ensures.value c.in-Some.is) c.restart_target-target.ensures.lines
