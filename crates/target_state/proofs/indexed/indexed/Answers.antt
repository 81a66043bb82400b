use Rattle.std.proofs.Common.{sym, arith}
use Rattle.target_state.proofs.Cancelling.{log_rises, found}
use Rattle.target_state.proofs.Indexing.{begun, goes_on, ended}
use Rattle.target_state.proofs.indexed.indexed.Goals as goal

pub loop-index-init : goal.loop-index-init
loop-index-init c = begun c.new-live.result c.args.log.now c.next-next.ensures.is_log c.new-live.ensures.empty

pub overflow_add-from : goal.overflow_add-from
overflow_add-from c =
    let is = c.next-next.ensures.is_log in
    let few = is.next in
    let f = found c.loop-index.from 1 c.args.log.now.entries c.args.log.now.next _ _ (log_rises c.args.log.now is) (sym c.in-Some.ensures) in
    let below = f.below in
    omega (arith, few, below)

pub loop-index-smaller : goal.loop-index-smaller
loop-index-smaller c =
    let is = c.next-next.ensures.is_log in
    let f = found c.loop-index.from 1 c.args.log.now.entries c.args.log.now.next _ _ (log_rises c.args.log.now is) (sym c.in-Some.ensures) in
    let high = f.high in
    let below = f.below in
    omega (arith, high, below)

pub loop-index-preserved : goal.loop-index-preserved
loop-index-preserved c =
    goes_on c.loop-index.live c.note.new.live c.loop-index.from _ _ c.args.log.now c.next-next.ensures.is_log (sym c.in-Some.ensures) c.in_ok-note.ensures c.loop-index.invariant

pub returns : goal.returns
returns c = ended c.loop-index.live c.loop-index.from c.args.log.now (sym c.in_default.ensures) c.loop-index.invariant
