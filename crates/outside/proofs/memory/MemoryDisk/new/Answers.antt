use Rattle.std.proofs.Common.{ap}
use Rattle.outside.specs.Pages.{cells}
use Rattle.outside.proofs.Whole.{new_pages, cells_none, blank_content, blank_settled, blank_under}
use Rattle.outside.proofs.memory.MemoryDisk.new.Goals as goal

pub invariant_of-result : goal.invariant_of-result
invariant_of-result c = record { fits = new_pages c.in_ok-no_pages.field-0.items c.in_ok-no_pages.ensures.count c.in_ok-no_pages.ensures.none }

pub returns-clause-new : goal.returns-clause-new
returns-clause-new c =
    let pages = c.in_ok-no_pages.field-0.items in
    let blanks = cells_none pages c.in_ok-no_pages.ensures.none in record {
      zero = blank_content (cells pages) blanks;
      settled = blank_settled (cells pages) blanks;
      works = ap (λ a. a.failed) c.new.ensures;
      faults = ap (λ a. a.faults) c.new.ensures;
    }

pub returns-clause-under : goal.returns-clause-under
returns-clause-under c =
    let pages = c.in_ok-no_pages.field-0.items in
    blank_under (cells pages) (cells_none pages c.in_ok-no_pages.ensures.none)
