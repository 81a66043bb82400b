use Rattle.llog_store.proofs.Passing.{half_packs}
use Rattle.llog_store.proofs.llog.half_cancelled_packs.Goals as goal

pub returns : goal.returns
returns c = half_packs
