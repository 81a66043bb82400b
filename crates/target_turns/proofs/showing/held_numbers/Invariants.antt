use Rattle.std.proofs.Common.{◌≡◌, ◌-◌, ◌++◌}
use Rattle.std.specs.List.{flat_map}
use Rattle.llog_store.specs.Log.{live_count}
use Rattle.target_turns.specs.Showing.{live_from, live_records, number_of}
use Rattle.target_turns.proofs.showing.held_numbers.Given as goal

abbrev pub invariant-loop-record : goal.invariant-loop-record
invariant-loop-record g l =
    l.numbers ++ flat_map number_of (live_from (live_count l.node.state.log.entries - l._record) l.from l.node.state.log.entries) ≡ flat_map number_of (live_records l.node.state.log.entries)
