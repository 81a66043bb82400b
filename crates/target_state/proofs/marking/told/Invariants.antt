use Rattle.std.proofs.Common.{◌≡◌, ◌-◌, ◌++◌}
use Rattle.llog_store.specs.Changes.{live_payloads}
use Rattle.target_state.specs.Marking.{stable_ids, greatest_batches}
use Rattle.target_state.proofs.marking.told.Given as goal

abbrev pub invariant-loop-master : goal.invariant-loop-master
invariant-loop-master l =
    l.marks ++ greatest_batches (16 - l.master) l.master (stable_ids l.waiting (live_payloads l.log.entries)) ≡ greatest_batches 16 0 (stable_ids l.waiting (live_payloads l.log.entries))
