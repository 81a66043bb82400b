use Rattle.std.proofs.Common.{◌/◌, None, length, sym, ◌∙◌, arith}
use Rattle.std.proofs.lemmas.List.{get_or_read}
use Rattle.outside.specs.Cells.{page_len}
use Rattle.outside.proofs.Zipped.{read_none, read_some}
use Rattle.outside.proofs.pages.read_piece.Goals as goal

pub returns-in-None : goal.returns-in-None
returns-in-None c =
    let xs = c.args.pages.now.items in
    let is = sym c.in-None.is ∙ get_or_read xs (c.args.at / page_len) c.index.result.now (omega arith) c.index.ensures None in
    c.fill.ensures.after (λ y e. e) ∙ read_none xs c.args.at (length c.args.into.now) c.requires.within c.requires.one is

pub returns-in-Some : goal.returns-in-Some
returns-in-Some c =
    let xs = c.args.pages.now.items in
    let is = sym c.in-Some.is ∙ get_or_read xs (c.args.at / page_len) c.index.result.now (omega arith) c.index.ensures None in
    c.copy_from_slice.ensures.after ∙ rw c.deref.ensures.value (read_some xs c.args.at (length c.args.into.now) _ c.in-Some.page c.requires.within c.requires.one is (omega arith))
