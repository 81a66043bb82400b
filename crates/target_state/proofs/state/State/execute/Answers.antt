use Rattle.std.proofs.Common.{subst}
use Rattle.llog_store.specs.Log.{IsLog}
use Rattle.target_state.specs.State.{TargetState}
use Rattle.target_state.proofs.Bounds.{next_left}
use Rattle.target_state.proofs.state.State.execute.Goals as goal

pub carry_out-requires-clause-next : goal.carry_out-requires-clause-next
carry_out-requires-clause-next c =
    let s = c.args.self.now in
    next_left s (c.lengths_of_logs.ensures.next_small s.log (subst (λ (t : TargetState). IsLog t.log) c.self.view_is (subst IsLog c.log.ensures c.next-next.ensures.is_log))) c.requires.load
