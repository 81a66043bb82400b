use Rattle.std.proofs.Common.{◌∙◌, ◌+◌, ◌-◌, ◌++◌, ap}
use Rattle.target_state.specs.Commit.{marks_from}
use Rattle.target_state.proofs.Listing.{marks_step}
use Rattle.target_state.proofs.committing.marks.Goals as goal

pub loop-master-preserved : goal.loop-master-preserved
loop-master-preserved c =
    ap (λ l. l ++ marks_from (16 - (c.loop-master.master + 1)) c.args.index (c.loop-master.master + 1) c.args.items.now) c.in_ok-push_mark.ensures
    ∙ marks_step c.loop-master.master c.args.index c.args.items.now c.loop-master.marks c.loop-master-test.true
    ∙ c.loop-master.invariant
