use Rattle.std.proofs.Common.{◌≡◌, ℕ, ◌+◌, ◌-◌, ◌++◌, List, Option, ap, sym, ◌∙◌, arith}
use Rattle.llog_store.specs.Changes.{live_payloads}
use Rattle.target_state.specs.Commit.{mark_of}
use Rattle.target_state.specs.Marking.{stable_ids, greatest_batches}
use Rattle.target_state.proofs.Greatest.{told_step, all_told}
use Rattle.target_state.proofs.marking.told.Goals as goal

pub loop-master-preserved : goal.loop-master-preserved
loop-master-preserved c =
    let ids = stable_ids c.args.waiting.now (live_payloads c.args.log.now.entries) in
    let m = c.loop-master.master in
    ap (λ (l : List (ℕ × ℕ)). l ++ greatest_batches (16 - (m + 1)) (m + 1) ids) (c.in_ok-push.ensures ∙ ap (λ (o : Option ℕ). c.loop-master.marks ++ mark_of m o) c.greatest.ensures)
    ∙ told_step m ids c.loop-master.marks c.loop-master-test.true
    ∙ c.loop-master.invariant

pub returns : goal.returns
returns c = all_told c.loop-master.master (stable_ids c.args.waiting.now (live_payloads c.args.log.now.entries)) c.loop-master.marks c.loop-master-test.false c.loop-master.invariant
