use Rattle.std.proofs.Common.{sym}
use Rattle.llog_store.proofs.Filling.{kept_long}
use Rattle.llog_store.proofs.chunks.Chunks.len.Goals as goal

pub returns : goal.returns
returns c = sym (kept_long c.self.inside.len c.self.inside.chunks.items c.args.self.now c.self.invariant c.self.view_is)
