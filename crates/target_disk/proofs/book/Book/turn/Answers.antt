use Rattle.std.proofs.Common.{◌∷◌, [], ◌∙◌}
use Rattle.target_disk.proofs.Turning.{same_count, turning, turns}
use Rattle.target_disk.proofs.book.Book.turn.Goals as goal

pub give-requires : goal.give-requires
give-requires c =
    let f = c.requires.fits in
    let t = turning c.args.self.now c.in-Some.draft c.in-Some-ends.ends f c.in-Some.is c.in-Some-ends.is in
    (f.free, f.behind, (c.in-Some-ends.ends.head ∷ t.0) ∷ [], t.2)

pub put_table-requires-clause-all : goal.put_table-requires-clause-all
put_table-requires-clause-all c =
    let f = c.requires.fits in
    let t = turning c.args.self.now c.in-Some.draft c.in-Some-ends.ends f c.in-Some.is c.in-Some-ends.is in
    let chain = c.in-Some-ends.ends.head ∷ t.0 in
    same_count c.args.self.now.blocks c.give.new.self f.free (c.args.self.now.head ∷ f.behind) chain t.2 (c.give.ensures f.free f.behind (chain ∷ []) t.2) ∙ f.count

pub returns : goal.returns
returns c =
    let o = c.put_table.ensures.others in
    turns c.args.self.now c.put_table.new.self c.in-Some.draft c.in-Some-ends.ends c.give.new.self c.saturating_add-self.result c.args.len c.requires.fits c.in-Some.is c.in-Some-ends.is c.give.ensures
    c.requires.whole c.requires.ends c.ranges.len.fits c.saturating_add-self.ensures c.put_table.ensures.table o.0 o.1 o.2 o.3 o.4
