use Rattle.std.proofs.Common.{◌≡◌, ◌-◌, ◌++◌}
use Rattle.std.specs.List.{flat_map}
use Rattle.llog_store.specs.Log.{live_count}
use Rattle.target_turns.specs.Showing.{live_from, lines_of, log_lines}
use Rattle.target_turns.proofs.showing.show_log.Given as goal

abbrev pub invariant-loop-record : goal.invariant-loop-record
invariant-loop-record g l =
    l.lines ++ flat_map lines_of (live_from (live_count l.node.state.log.entries - l._record) l.from l.node.state.log.entries) ≡ l.fn.lines ++ log_lines l.target l.node.state.log.entries
