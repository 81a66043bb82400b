use Rattle.std.proofs.Common.{◌<◌, length, map, arith}
use Rattle.update_coordinator.specs.Rules.{executed_by}
use Rattle.update_coordinator.proofs.Writing.{written}
use Rattle.update_coordinator.proofs.flights.each_executed.Goals as goal

pub loop-flight-preserved : goal.loop-flight-preserved
loop-flight-preserved c =
    let i = c.loop-flight.flight-index in
    let below : i < length c.loop-flight.flights = omega (arith, c.loop-flight-test.true, c.loop-flight.auto.flights) in
    written (executed_by c.args.target c.args.attempt) c.loop-flight.flights (map (executed_by c.args.target c.args.attempt) c.args.flights.now) i c.flight-item.result c.hear_executed.new.self
    below c.hear_executed.ensures c.loop-flight.invariant
