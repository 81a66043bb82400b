use Rattle.outside.proofs.Zipped.{range_fits, range_cells}
use Rattle.outside.proofs.page.settle_range.Goals as goal

pub returns-clause-fits : goal.returns-clause-fits
returns-clause-fits c = rw (c.overwrite.ensures, c.mark.ensures, c.deref.ensures.value) (range_fits c.args.content.now.items c.args.settled.now.items c.args.dirty.now.items c.args.low c.args.high c.requires)

pub returns-clause-cells : goal.returns-clause-cells
returns-clause-cells c = rw (c.overwrite.ensures, c.mark.ensures, c.deref.ensures.value) (range_cells c.args.content.now.items c.args.settled.now.items c.args.dirty.now.items c.args.low c.args.high c.requires)
