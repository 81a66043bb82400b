use Rattle.outside.specs.Cells.{page_len}
use Rattle.outside.proofs.Mapped.{settle_none}
use Rattle.outside.proofs.fill.settle_page.Goals as goal

pub returns-in-None-clause-cells : goal.returns-in-None-clause-cells
returns-in-None-clause-cells c = rw c.in-None.is (settle_none page_len)
