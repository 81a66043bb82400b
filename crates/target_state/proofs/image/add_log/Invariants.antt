use Rattle.std.proofs.Common.{◌≡◌, ◌++◌}
use Rattle.llog_store.specs.Log.{log_text}
use Rattle.llog_store.specs.Chunked.{joined_to}
use Rattle.target_state.proofs.image.add_log.Given as goal

abbrev pub invariant-loop-i : goal.invariant-loop-i
invariant-loop-i l = l.out ≡ l.fn.out ++ joined_to (log_text l.log) l.i
