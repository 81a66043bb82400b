use Rattle.std.proofs.Common.{ℕ, subst, Err}
use Rattle.llog_store.specs.declared.append.AppendFault.{AppendFault}
use Rattle.llog_store.specs.declared.append.AppendFault.TheVariants as fault
use Rattle.llog_store.specs.Log.{Log, IsLog}
use Rattle.llog_store.specs.Kept.{append_fault, Refuses}
use Rattle.target_state.proofs.Appending.{no_fault, index_left, grows_most}
use Rattle.target_state.proofs.executing.append.Goals as goal

pub unreachable-requires : goal.unreachable-requires
unreachable-requires c =
    let log = c.args.log.now in
    let payload = c.args.payload.now in
    let left = index_left log payload c.requires.next in
    let r = subst (λ (f : AppendFault). Refuses {X = ℕ} (append_fault log payload) (Err f)) c.in-Err-TooLong.field-0-is c.in-Err-TooLong.ensures.refuses in
    subst (λ o. Refuses {X = ℕ} o (Err (fault.TooLong c.in-Err-TooLong.field-0-0))) (no_fault log payload c.requires.short left) r

pub unreachable-requires-in-Err-Full : goal.unreachable-requires-in-Err-Full
unreachable-requires-in-Err-Full c =
    let log = c.args.log.now in
    let payload = c.args.payload.now in
    let left = index_left log payload c.requires.next in
    let r = subst (λ (f : AppendFault). Refuses {X = ℕ} (append_fault log payload) (Err f)) c.in-Err-Full.field-0-is c.in-Err-Full.ensures.refuses in
    subst (λ o. Refuses {X = ℕ} o (Err (fault.Full c.in-Err-Full.field-0-0))) (no_fault log payload c.requires.short left) r

pub returns-in-Ok-clause-grows : goal.returns-in-Ok-clause-grows
returns-in-Ok-clause-grows c =
    let log = c.args.log.now in
    let payload = c.args.payload.now in
    let is = subst (λ (l : Log). IsLog l) c.log.ensures c.next-next.ensures.is_log in
    grows_most c.append.new.self log payload c.requires.short c.in-Ok.ensures.ok (c.lengths_of_logs.ensures.grows log payload is c.requires.short)
