use Rattle.llog_store.specs.Log.{log_text}
use Rattle.target_state.proofs.Chunking.{begun, added}
use Rattle.target_state.proofs.image.add_log.Goals as goal

pub loop-i-init : goal.loop-i-init
loop-i-init c = begun c.args.out.now (log_text c.args.log.now)

pub loop-i-preserved : goal.loop-i-preserved
loop-i-preserved c = added c.args.out.now c.loop-i.out c.add_chunk.new.out (log_text c.args.log.now) c.loop-i.i c.in_ok-add_chunk.ensures c.loop-i.invariant
