use Rattle.std.proofs.Common.{arith}
use Rattle.outside.proofs.Cycled.{cycled_cells}
use Rattle.outside.proofs.fill.cycle_pages.Goals as goal

pub returns-clause-cells : goal.returns-clause-cells
returns-clause-cells c = cycled_cells c.args.choice c.args.pages.now.items c.loop-p.pages.items c.loop-p.invariant.count (λ p lt. c.loop-p.invariant.done p (omega arith))
