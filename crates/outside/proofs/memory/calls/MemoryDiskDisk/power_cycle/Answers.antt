use Rattle.std.proofs.Common.{◌≡◌, ap, arith}
use Rattle.outside.specs.Pages.{cells}
use Rattle.outside.proofs.Places.{length-cells}
use Rattle.outside.proofs.Cycled.{cycled_pages, cycled_image, cycled_settled, cycled_under, cycled_chosen}
use Rattle.outside.proofs.memory.calls.MemoryDiskDisk.power_cycle.Goals as goal

pub invariant_of-self-2 : goal.invariant_of-self-2
invariant_of-self-2 c = record { fits = cycled_pages c.cycle.new.self.choice c.args.self.now.pages.items c.cycle_pages.new.pages.items c.args.self.now.fits c.cycle_pages.ensures.count c.cycle_pages.ensures.cells }

pub returns-clause-cycles : goal.returns-clause-cycles
returns-clause-cycles c = λ honest.
    let old = cells c.args.self.now.pages.items in
    let new = cells c.cycle_pages.new.pages.items in
    record {
      image = cycled_image c.cycle.new.self.choice old new c.cycle_pages.ensures.cells c.args.self.now.fits.each;
      settled = cycled_settled c.cycle.new.self.choice old new c.cycle_pages.ensures.cells;
      err_content = tt;
      err_settled = tt;
    }

pub returns-clause-chosen : goal.returns-clause-chosen
returns-clause-chosen c = λ k lt.
    let old = cells c.args.self.now.pages.items in
    let new = cells c.cycle_pages.new.pages.items in
    let same : c.cycle.new.self.choice ≡ c.args.self.now.tally.choice = ap (λ a. a.choice) c.in_ok-cycle.ensures.counted in
    rw (← same) (cycled_chosen c.cycle.new.self.choice old new c.cycle_pages.ensures.cells k (omega (arith, length-cells c.args.self.now.pages.items, c.args.self.now.fits.count)))

pub returns-clause-under : goal.returns-clause-under
returns-clause-under c = cycled_under c.cycle.new.self.choice (cells c.args.self.now.pages.items) (cells c.cycle_pages.new.pages.items) c.cycle_pages.ensures.cells
