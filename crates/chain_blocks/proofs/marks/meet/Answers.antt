use Rattle.std.specs.Prelude.{◌<◌, length}
use Rattle.std.proofs.Common.{◌∙◌, sym, arith}
use Rattle.chain_blocks.proofs.Marking.{met_out, met_loop, met_shared, met_new, marked_more, unmarked_set, read_at}
use Rattle.chain_blocks.proofs.marks.meet.Goals as goal

pub returns-then-at-len-clause-meets : goal.returns-then-at-len-clause-meets
returns-then-at-len-clause-meets c = λ seen here m. met_out (length c.args.marks.now.items) seen here c.args.block (omega arith)

pub returns-then-before-mark-clause-meets : goal.returns-then-before-mark-clause-meets
returns-then-before-mark-clause-meets c = λ seen here m.
    let ms = c.args.marks.now.items in
    let lt : c.args.block < length ms = omega arith in
    met_loop ms c.args.mark seen here c.args.block lt m (sym (read_at ms c.args.block c.index-before.result.now lt c.index-before.ensures) ∙ c.if-before-mark.true)

pub returns-then-before-ne0-clause-meets : goal.returns-then-before-ne0-clause-meets
returns-then-before-ne0-clause-meets c = λ seen here m.
    let ms = c.args.marks.now.items in
    let lt : c.args.block < length ms = omega arith in
    let is = read_at ms c.args.block c.index-before.result.now lt c.index-before.ensures in
    met_shared ms c.args.mark seen here c.args.block lt m (λ e. c.if-before-mark.false (is ∙ e)) (λ e. c.if-before-ne0.true (is ∙ e))

pub returns-clause-fewer : goal.returns-clause-fewer
returns-clause-fewer c =
    let ms = c.args.marks.now.items in
    let lt : c.args.block < length ms = omega arith in
    unmarked_set ms c.args.block c.args.mark lt (sym (read_at ms c.args.block c.index-before.result.now lt c.index-before.ensures) ∙ c.if-before-ne0.false) (λ e. omega arith)

pub returns-clause-meets : goal.returns-clause-meets
returns-clause-meets c = λ seen here m.
    let ms = c.args.marks.now.items in
    let lt : c.args.block < length ms = omega arith in
    let unset = sym (read_at ms c.args.block c.index-before.result.now lt c.index-before.ensures) ∙ c.if-before-ne0.false in
    (met_new ms c.args.mark seen here c.args.block lt m unset, lt, marked_more ms c.args.mark seen here c.args.block c.requires lt unset m)
