use Rattle.std.proofs.Common.{arith}
use Rattle.llog_store.proofs.Filling.{kept_long}
use Rattle.llog_store.proofs.chunks.Chunks.count.Goals as goal

pub returns-then-self-eq0 : goal.returns-then-self-eq0
returns-then-self-eq0 c = omega (arith, c.if-self-eq0.true, kept_long c.self.inside.len c.self.inside.chunks.items c.args.self.now c.self.invariant c.self.view_is)

pub returns-else-self-eq0 : goal.returns-else-self-eq0
returns-else-self-eq0 c = omega (arith, c.if-self-eq0.false, kept_long c.self.inside.len c.self.inside.chunks.items c.args.self.now c.self.invariant c.self.view_is)
