use Rattle.std.proofs.Common.{rules}
use Rattle.dne_cli.proofs.Sessions.{turned_next}
use Rattle.dne_cli.proofs.session.turn_away.Goals as goal

pub loop-request-preserved : goal.loop-request-preserved
loop-request-preserved c =
    turned_next c.args.requests.now c.loop-request.request-index c.request-item.result c.loop-request.out c.print_recovering.new.out _ c.loop-request-test.true (search rules) c.loop-request.invariant c.in_ok-print_recovering.ensures.ok
