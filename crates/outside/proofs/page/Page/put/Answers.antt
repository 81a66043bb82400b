use Rattle.outside.proofs.Zipped.{page_fits, page_over}
use Rattle.outside.proofs.page.Page.put.Goals as goal

pub invariant_of-self : goal.invariant_of-self
invariant_of-self c =
    let wide = c.widened-low.ensures in
    let old = c.args.self.now in
    record {
      fits = rw c.overwrite.ensures (rw c.mark.ensures (page_fits old.content.items old.settled.items old.dirty.items old.low old.high c.args.at c.args.from.now old.fits c.requires
          c.widened-low.result.0 c.widened-low.result.1 wide.order wide.inside wide.start wide.end wide.below wide.above));
    }

pub returns : goal.returns
returns c =
    let old = c.args.self.now in
    rw c.overwrite.ensures (rw c.mark.ensures (page_over old.content.items old.settled.items old.dirty.items old.low old.high c.args.at c.args.from.now old.fits c.requires))
