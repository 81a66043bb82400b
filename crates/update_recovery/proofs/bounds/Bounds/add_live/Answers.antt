use Rattle.std.proofs.Common.{sym, arith, ◌-◌, ◌||◌}
use Rattle.std.specs.BTreeSet.{contains}
use Rattle.llog_store.specs.Log.{live_count}
use Rattle.update_recovery.specs.Live.{found_cmp}
use Rattle.update_recovery.specs.Union.{is_logged}
use Rattle.update_recovery.proofs.Logs.{goes_on, is_over, is_done}
use Rattle.update_recovery.proofs.bounds.Bounds.add_live.Goals as goal

pub returns-in-None : goal.returns-in-None
returns-in-None g c = λ k.
    let b = c.args.self.now in
    let s = c.args.node.now.state in
    let es = s.log.entries in
    is_over b.epoch b.marks.items k es (is_logged b.epoch b.marks.items k s || contains found_cmp c.args.found.now k) (contains found_cmp c.loop-record.found k) (live_count es - c.loop-record._record) c.loop-record.from (sym c.in-None.ensures) (c.loop-record.invariant k)

pub loop-record-preserved : goal.loop-record-preserved
loop-record-preserved g c = λ k.
    let b = c.args.self.now in
    let s = c.args.node.now.state in
    let es = s.log.entries in
    goes_on b.epoch b.marks.items k es (is_logged b.epoch b.marks.items k s || contains found_cmp c.args.found.now k) (contains found_cmp c.loop-record.found k) (contains found_cmp c.add.new.found k) (live_count es) c.loop-record._record c.loop-record.from c.in-Some.index c.in_ok-from-in-Some.from c.in-Some.payload.now
    (omega (arith, c.loop-record-test.true, c.live_count-record-end.ensures)) (sym c.in-Some.ensures) c.in_ok-from-in-Some.ensures (c.in_ok-add-in-Some.ensures k) (c.loop-record.invariant k)

pub returns : goal.returns
returns g c = λ k.
    let b = c.args.self.now in
    let s = c.args.node.now.state in
    let es = s.log.entries in
    is_done b.epoch b.marks.items k es (is_logged b.epoch b.marks.items k s || contains found_cmp c.args.found.now k) (contains found_cmp c.loop-record.found k) (live_count es - c.loop-record._record) c.loop-record.from (omega (arith, c.loop-record-test.false, c.live_count-record-end.ensures)) (c.loop-record.invariant k)
