use Rattle.std.proofs.Common.{◌≡◌, None, Some, get_or, sym, ◌∙◌, ap}
use Rattle.std.proofs.lemmas.List.{get_or_read}
use Rattle.outside.specs.Pages.{page_cells}
use Rattle.outside.proofs.Places.{same_cells, none_from}
use Rattle.outside.proofs.pages.make_page.Goals as goal

pub returns-in_ok-page-clause-cells : goal.returns-in_ok-page-clause-cells
returns-in_ok-page-clause-cells c =
    let xs = c.args.pages.now.items in
    let is : get_or xs c.args.p None ≡ None = sym (get_or_read xs c.args.p c.index.result.now c.requires c.index.ensures None) ∙ none_from c.index.result.now c.is_none.result c.is_none.ensures c.if-is_none.true in
    same_cells xs c.args.p (Some c.in_ok-page.page) (c.in_ok-page.ensures ∙ ap page_cells (sym is))
