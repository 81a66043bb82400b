use Rattle.outside.proofs.Cycled.{cycled_none}
use Rattle.outside.proofs.fill.cycle_page.Goals as goal

pub returns-in-None-clause-cells : goal.returns-in-None-clause-cells
returns-in-None-clause-cells c = rw c.in-None.is (cycled_none c.args.choice)
