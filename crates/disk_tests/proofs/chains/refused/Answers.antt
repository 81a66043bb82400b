use Rattle.std.proofs.Common.{arith}
use Rattle.disk_tests.proofs.chains.refused.Goals as goal

pub write_chain-answer-requires-clause-within : goal.write_chain-answer-requires-clause-within
write_chain-answer-requires-clause-within c = let h = c.in-Ok.ensures in omega (arith, h.size)
