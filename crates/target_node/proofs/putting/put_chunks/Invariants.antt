use Rattle.llog_store.specs.Log.{log_text}
use Rattle.llog_store.specs.Chunked.{joined_to}
use Rattle.target_node.specs.Putting.{Puts}
use Rattle.target_node.proofs.putting.put_chunks.Given as goal

abbrev pub invariant-loop-i : goal.invariant-loop-i
invariant-loop-i g l = Puts (joined_to (log_text l.log) l.i) (g.D.Disk.shown l.fn.store.disk) (g.D.Disk.shown l.store.disk) l.fn.store.draft l.store.draft
