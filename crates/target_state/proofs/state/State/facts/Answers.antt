use Rattle.std.proofs.Common.{arith}
use Rattle.target_state.proofs.state.State.facts.Goals as goal

pub returns-clause-fits : goal.returns-clause-fits
returns-clause-fits c = record { load = omega (arith, c.load.ensures.fits); clock = omega (arith, c.clock.type_inv); writer = c.writer.ensures.fits; reply = c.in_ok-results.ensures.fits }
