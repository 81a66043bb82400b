use Rattle.std.proofs.Common.{ℕ, ◌≤◌, sym, ap, subst, arith, Err}
use Rattle.llog_store.specs.declared.append.AppendFault.{AppendFault}
use Rattle.llog_store.specs.Log.{Log}
use Rattle.llog_store.specs.Kept.{append_fault, Refuses}
use Rattle.llog_store.proofs.Passing.{not_long, none_index}
use Rattle.target_state.proofs.Cancelling.{log_rises, found}
use Rattle.target_state.proofs.Packing.{is_short, begun, goes_on, is_full, ended}
use Rattle.target_state.proofs.indexed.packed.Goals as goal

pub loop-index-init : goal.loop-index-init
loop-index-init c = (begun c.in_ok-packed.packed c.args.log.now c.next-next.ensures.is_log c.in_ok-packed.ensures, omega (arith, ap (λ (l : Log). l.next) c.in_ok-packed.ensures))

pub overflow_add-from : goal.overflow_add-from
overflow_add-from c =
    let is = c.next-next.ensures.is_log in
    let few = is.next in
    let f = found c.loop-index.from 1 c.args.log.now.entries c.args.log.now.next _ _ (log_rises c.args.log.now is) (sym c.in-Some.ensures) in
    let below = f.below in
    omega (arith, few, below)

pub loop-index-smaller : goal.loop-index-smaller
loop-index-smaller c =
    let is = c.next-next.ensures.is_log in
    let f = found c.loop-index.from 1 c.args.log.now.entries c.args.log.now.next _ _ (log_rises c.args.log.now is) (sym c.in-Some.ensures) in
    let high = f.high in
    let below = f.below in
    omega (arith, high, below)

pub loop-index-preserved : goal.loop-index-preserved
loop-index-preserved c =
    (goes_on c.loop-index.packed c.append.new.self c.loop-index.from _ _ c.args.log.now c.next-next.ensures.is_log (sym c.in-Some.ensures) c.in-Ok.ensures.ok c.loop-index.invariant.0, subst (λ (l : Log). l.next ≤ 256000) (sym c.in-Ok.ensures.ok) (none_index c.loop-index.packed c.in-Some.payload.now c.in-Ok.field-0 c.in-Ok.ensures.refuses))

pub returns-in-Err-Full : goal.returns-in-Err-Full
returns-in-Err-Full c =
    let full = subst (λ (f : AppendFault). Refuses {X = ℕ} (append_fault c.loop-index.packed c.in-Some.payload.now) (Err f)) c.in-Err-Full.field-0-is c.in-Err-Full.ensures.refuses in
    is_full c.loop-index.packed c.loop-index.from _ c.in-Err-Full.field-0-0 c.in-Some.payload.now c.args.log.now c.next-next.ensures.is_log (sym c.in-Some.ensures) full c.loop-index.invariant.0

pub unreachable-requires : goal.unreachable-requires
unreachable-requires c =
    let long = subst (λ (f : AppendFault). Refuses {X = ℕ} (append_fault c.loop-index.packed c.in-Some.payload.now) (Err f)) c.in-Err-TooLong.field-0-is c.in-Err-TooLong.ensures.refuses in
    not_long c.loop-index.packed c.in-Some.payload.now c.in-Err-TooLong.field-0-0 (is_short c.loop-index.from _ c.in-Some.payload.now c.args.log.now c.next-next.ensures.is_log (sym c.in-Some.ensures)) long

pub returns : goal.returns
returns c = (ended c.loop-index.packed c.loop-index.from c.args.log.now (sym c.in_default.ensures) c.loop-index.invariant.0, c.loop-index.invariant.1)
