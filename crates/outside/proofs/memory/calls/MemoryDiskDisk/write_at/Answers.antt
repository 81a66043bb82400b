use Rattle.std.proofs.Common.{◌≡◌, ◌≤◌, ◌+◌, length, ◌∙◌, subst, arith, rules, inr, false}
use Rattle.std.specs.Prelude.{is_err}
use Rattle.outside.specs.Cells.{content_of, kept_of}
use Rattle.outside.specs.Pages.{cells}
use Rattle.outside.specs.Cells.{Overwrites}
use Rattle.outside.proofs.Whole.{on_ok, ok_at, dirty_over, under_over}
use Rattle.outside.proofs.Places.{length-cells}
use Rattle.outside.proofs.Whole.{whole_pages, changes-map, content_put, fits_over}
use Rattle.outside.proofs.memory.calls.MemoryDiskDisk.write_at.Goals as goal

pub invariant_of-self-2 : goal.invariant_of-self-2
invariant_of-self-2 c =
    let fits = c.args.self.now.fits in
    let old = cells c.args.self.now.pages.items in
    let new = cells c.put_range.new.pages.items in
    let over : Overwrites c.args.at c.args.from.now old new = subst (λ l. Overwrites c.args.at c.args.from.now l new) c.make_range.ensures.cells c.put_range.ensures.cells in
    let within : c.args.at + length c.args.from.now ≤ length old = omega (arith, length-cells c.args.self.now.pages.items, fits.count, c.requires) in
    record { fits = whole_pages c.put_range.new.pages.items (c.put_range.ensures.count ∙ c.make_range.ensures.count ∙ fits.count) (fits_over c.args.at c.args.from.now old new over within fits.each) }

pub returns-clause-writes : goal.returns-clause-writes
returns-clause-writes c = λ honest.
    let fits = c.args.self.now.fits in
    let old = cells c.args.self.now.pages.items in
    let new = cells c.put_range.new.pages.items in
    let over : Overwrites c.args.at c.args.from.now old new = subst (λ l. Overwrites c.args.at c.args.from.now l new) c.make_range.ensures.cells c.put_range.ensures.cells in
    let within : c.args.at + length c.args.from.now ≤ length old = omega (arith, length-cells c.args.self.now.pages.items, fits.count, c.requires) in
    record {
      settled = changes-map kept_of c.args.at (length c.args.from.now) old new over.changes;
      content = changes-map content_of c.args.at (length c.args.from.now) old new over.changes;
      written = on_ok c.burn-2.result (content_put c.args.at c.args.from.now old new over within);
    }

pub returns-clause-ends : goal.returns-clause-ends
returns-clause-ends c =
    let fits = c.args.self.now.fits in
    let old = cells c.args.self.now.pages.items in
    let new = cells c.put_range.new.pages.items in
    let over : Overwrites c.args.at c.args.from.now old new = subst (λ l. Overwrites c.args.at c.args.from.now l new) c.make_range.ensures.cells c.put_range.ensures.cells in
    let within : c.args.at + length c.args.from.now ≤ length old = omega (arith, length-cells c.args.self.now.pages.items, fits.count, c.requires) in
    let grown : is_err c.make_range.result ≡ false = search rules in
    let there = ok_at c.make_range.result grown c.make_range.ensures.there in
    inr (inr (record {
      stood = c.if-self.false;
      exact = c.burn-2.ensures.exact;
      content = content_put c.args.at c.args.from.now old new over within;
      dirty = dirty_over c.args.at c.args.from.now old new over within;
      under = under_over c.args.at c.args.from.now old new over within;
      pages = λ k h. c.put_range.ensures.same _ ∙ c.make_range.ensures.kept.each _ h;
      only = λ k far. c.put_range.ensures.same _ ∙ c.make_range.ensures.only _ far;
      made = λ k le lt. c.put_range.ensures.same _ ∙ there k le lt;
      counted = c.burn-2.ensures.counted;
    }))
