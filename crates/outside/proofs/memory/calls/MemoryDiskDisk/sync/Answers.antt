use Rattle.outside.specs.Pages.{cells}
use Rattle.outside.proofs.Whole.{settled_pages, settled_content, settled_kept, settled_under}
use Rattle.outside.proofs.memory.calls.MemoryDiskDisk.sync.Goals as goal

pub invariant_of-self-2 : goal.invariant_of-self-2
invariant_of-self-2 c = record { fits = settled_pages c.args.self.now.pages.items c.settle_pages.new.pages.items c.args.self.now.fits c.settle_pages.ensures.count c.settle_pages.ensures.cells }

pub returns-clause-syncs : goal.returns-clause-syncs
returns-clause-syncs c = λ honest.
    let old = cells c.args.self.now.pages.items in
    let new = cells c.settle_pages.new.pages.items in
    record { ok = settled_kept old new c.settle_pages.ensures.cells; content = settled_content old new c.settle_pages.ensures.cells; err = tt }

pub returns-clause-under : goal.returns-clause-under
returns-clause-under c = settled_under (cells c.args.self.now.pages.items) (cells c.settle_pages.new.pages.items) c.settle_pages.ensures.cells
