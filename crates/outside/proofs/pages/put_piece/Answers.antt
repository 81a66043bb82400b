use Rattle.std.proofs.Common.{◌/◌, None, Some, sym, ◌∙◌, arith}
use Rattle.std.proofs.lemmas.List.{get_or_read}
use Rattle.outside.specs.Cells.{page_len}
use Rattle.outside.proofs.Zipped.{over_place}
use Rattle.outside.proofs.pages.put_piece.Goals as goal

pub returns-clause-cells : goal.returns-clause-cells
returns-clause-cells c =
    let xs = c.args.pages.now.items in
    let is = sym c.in-Some.is ∙ get_or_read xs (c.args.at / page_len) c.index_mut.result.now (omega arith) c.index_mut.ensures.value None in
    over_place xs c.args.at (Some c.in-Some.page) (Some c.put.new.self) c.args.from.now c.requires.within c.requires.one is c.put.ensures
