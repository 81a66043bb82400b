use Rattle.std.proofs.Common.{arith}
use Rattle.dne_cli.specs.Kept.{Kept, Commits}
use Rattle.dne_cli.specs.Restart.{held_of}
use Rattle.dne_cli.specs.Session.{target_of}
use Rattle.dne_cli.proofs.Sessions.{carried, count_low, taken_out}
use Rattle.dne_cli.proofs.session.Session.commit.Goals as goal

pub returns-clause-does : goal.returns-clause-does
returns-clause-does g c =
    let shown = g.D.Disk.shown in
    let inside = c.self.inside in
    let view : Kept = record { cluster = inside.cluster; ended = inside.ended; used = inside.used.items; waiting = inside.waiting.items; target = target_of shown inside.target } in
    let now = c.commit_target-target.result in
    carried now.1 (λ k t. record k { target = t }) (λ old new ls. Commits old.ledger c.args.number old new ls) view c.args.self.now (held_of shown c.in-Some.target) (held_of shown now.0) c.args.out.now c.commit_target-target.new.out c.self.view_is
    (taken_out shown inside.target c.take.result c.in-Some.target c.take.ensures.value c.in-Some.is) c.commit_target-target.ensures.lines

pub commit_target-target-requires : goal.commit_target-target-requires
commit_target-target-requires g c =
    let shown = g.D.Disk.shown in
    let inside = c.self.inside in
    let low = count_low (target_of shown inside.target) (held_of shown c.in-Some.target) inside.waiting.items inside.used.items (taken_out shown inside.target c.take.result c.in-Some.target c.take.ensures.value c.in-Some.is) c.self.invariant.1 c.self.invariant.2 in
    omega (arith, low)
