use Rattle.outside.proofs.Zipped.{cycled_from}
use Rattle.outside.proofs.page.Page.cycle.Goals as goal

pub returns : goal.returns
returns c =
    let old = c.args.self.now in
    cycled_from c.args.choice old.content.items c.choose_bytes.new.content.items old.settled.items old.dirty.items old.low old.high _ old.fits c.choose_bytes.ensures.fits c.choose_bytes.ensures.chosen c.settle_range.ensures.cells
