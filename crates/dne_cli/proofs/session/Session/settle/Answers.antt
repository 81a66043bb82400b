use Rattle.std.proofs.Common.{rules, ◌≡◌, Some, ap, ◌∙◌, length, arith}
use Rattle.dne_cli.specs.Restart.{held_of}
use Rattle.dne_cli.specs.Session.{target_of}
use Rattle.dne_cli.specs.declared.target.Target.TheVariants.{Serving}
use Rattle.dne_cli.proofs.Sessions.{count_low}
use Rattle.dne_cli.proofs.session.Session.settle.Goals as goal

pub serve_all-requires : goal.serve_all-requires
serve_all-requires g c =
    let shown = g.D.Disk.shown in
    let inside = c.self.inside in
    let same : c.as_slice.result.now ≡ inside.waiting.items = search rules in
    let low = count_low (target_of shown inside.target) (held_of shown (Serving c.in-Some-Serving.served)) inside.waiting.items inside.used.items
    (ap (target_of shown) (c.in-Some-Serving.is ∙ ap Some c.in-Some-Serving.field-0-is)) c.self.invariant.1 c.self.invariant.2 in
    let size = ap length same in
    omega (arith, low, size)
