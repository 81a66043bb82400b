use Rattle.std.proofs.Common.{List, ℕ, ◌+◌, ◌-◌, [], ◌∷◌, ◌++◌, Option, None, Some, ap, ◌∙◌, subst, arith}
use Rattle.std.specs.List.{flat_map}
use Rattle.llog_store.specs.Log.{live_count}
use Rattle.update_record.specs.declared.operation.Record.{Record}
use Rattle.target_turns.specs.Showing.{IsNext, live_from, live_records, numbers_in, number_of}
use Rattle.target_turns.proofs.Logs.{goes_on, is_over, is_done}
use Rattle.target_turns.proofs.showing.held_numbers.Goals as goal

pub returns-in-None : goal.returns-in-None
returns-in-None g c =
    let es = c.args.node.now.state.log.entries in
    let from = c.loop-record.from in
    is_over number_of c.loop-record.numbers (live_count es - c.loop-record._record) from es (flat_map number_of (live_records es)) (subst (λ (o : Option (ℕ × Record)). IsNext from es o) c.in-None.is c.in_ok-next_record.ensures) c.loop-record.invariant

pub loop-record-preserved : goal.loop-record-preserved
loop-record-preserved g c =
    let es = c.args.node.now.state.log.entries in
    let from = c.loop-record.from in
    let next = c.in_ok-from-in-Some.from in
    let step : IsNext from es (Some (c.in-Some.index, c.in-Some.entry)) = subst (λ (o : Option (ℕ × Record)). IsNext from es o) c.in-Some.is c.in_ok-next_record.ensures in
    ap (λ (ns : List ℕ). ns ++ flat_map number_of (live_from (live_count es - (c.loop-record._record + 1)) next es)) c.in_ok-push-in-Some.ensures.ok
    ∙ goes_on number_of c.loop-record.numbers (live_count es) c.loop-record._record from c.in-Some.index next step.0 (c.in-Some.entry.number ∷ []) es (flat_map number_of (live_records es)) (omega (arith, c.loop-record-test.true, c.live_count-record-end.ensures)) step.1 c.in_ok-from-in-Some.ensures (ap (λ (o : Option Record). numbers_in o) step.2) c.loop-record.invariant

pub returns : goal.returns
returns g c =
    let es = c.args.node.now.state.log.entries in
    is_done number_of c.loop-record.numbers (live_count es - c.loop-record._record) c.loop-record.from es (flat_map number_of (live_records es)) (omega (arith, c.loop-record-test.false, c.live_count-record-end.ensures)) c.loop-record.invariant
