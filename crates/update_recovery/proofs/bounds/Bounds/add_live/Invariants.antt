use Rattle.std.proofs.Common.{◌≡◌, ◌-◌, ◌||◌}
use Rattle.std.specs.BTreeSet.{contains}
use Rattle.llog_store.specs.Log.{live_count}
use Rattle.update_recovery.specs.declared.found.Found.{Found}
use Rattle.update_recovery.specs.Live.{live_from, found_cmp}
use Rattle.update_recovery.specs.Union.{is_among, is_logged}
use Rattle.update_recovery.proofs.bounds.Bounds.add_live.Given as goal

abbrev pub invariant-loop-record : goal.invariant-loop-record
invariant-loop-record g l =
    (k : Found)
    → (is_among l.self.epoch l.self.marks.items k (live_from (live_count l.node.state.log.entries - l._record) l.from l.node.state.log.entries) || contains found_cmp l.found k)
    ≡ (is_logged l.self.epoch l.self.marks.items k l.node.state || contains found_cmp l.fn.found k)
