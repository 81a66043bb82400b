use Rattle.std.proofs.Common.{List, ℕ, ◌+◌, ◌-◌, [], ◌∷◌, ◌++◌, Option, None, Some, sym, ap, ◌∙◌, subst, arith}
use Rattle.std.specs.List.{flat_map}
use Rattle.llog_store.specs.Log.{live_count}
use Rattle.update_record.specs.declared.operation.Record.{Record}
use Rattle.scenario_text.specs.declared.line.Line.{Line}
use Rattle.scenario_text.specs.declared.line.Line.TheVariants as lines
use Rattle.scenario_text.specs.declared.logged.Logged.{Logged}
use Rattle.target_turns.specs.Showing.{IsNext, live_from, entry_lines, lines_of, log_lines}
use Rattle.target_turns.proofs.Logs.{goes_on, is_over, is_done}
use Rattle.target_turns.proofs.showing.show_log.Goals as goal

pub returns-in-None : goal.returns-in-None
returns-in-None g c =
    let es = c.args.node.now.state.log.entries in
    let from = c.loop-record.from in
    is_over lines_of c.loop-record.lines (live_count es - c.loop-record._record) from es (c.args.lines.now ++ log_lines c.args.target es) (subst (λ (o : Option (ℕ × Record)). IsNext from es o) c.in-None.is c.in_ok-next_record.ensures) c.loop-record.invariant

pub loop-record-preserved : goal.loop-record-preserved
loop-record-preserved g c =
    let es = c.args.node.now.state.log.entries in
    let from = c.loop-record.from in
    let next = c.in_ok-from-in-Some.from in
    let index = c.in-Some.index in
    let step : IsNext from es (Some (index, c.in-Some.entry)) = subst (λ (o : Option (ℕ × Record)). IsNext from es o) c.in-Some.is c.in_ok-next_record.ensures in
    let told = ap (λ (o : Option Record). entry_lines index o) step.2 ∙ ap (λ (l : Logged). lines.LogEntry l ∷ []) (sym c.logged.ensures) in
    ap (λ (ls : List Line). ls ++ flat_map lines_of (live_from (live_count es - (c.loop-record._record + 1)) next es)) c.in_ok-push-in-Some.ensures.ok
    ∙ goes_on lines_of c.loop-record.lines (live_count es) c.loop-record._record from index next step.0 (lines.LogEntry c.logged.result ∷ []) es (c.args.lines.now ++ log_lines c.args.target es) (omega (arith, c.loop-record-test.true, c.live_count-live.ensures)) step.1 c.in_ok-from-in-Some.ensures told c.loop-record.invariant

pub returns : goal.returns
returns g c =
    let es = c.args.node.now.state.log.entries in
    is_done lines_of c.loop-record.lines (live_count es - c.loop-record._record) c.loop-record.from es (c.args.lines.now ++ log_lines c.args.target es) (omega (arith, c.loop-record-test.false, c.live_count-live.ensures)) c.loop-record.invariant
