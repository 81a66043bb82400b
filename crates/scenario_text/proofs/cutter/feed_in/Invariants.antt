use Rattle.std.proofs.Common.{take}
use Rattle.scenario_text.specs.Spelling.{NoFeed}
use Rattle.scenario_text.proofs.cutter.feed_in.Given as goal

abbrev pub invariant-loop-i : goal.invariant-loop-i
invariant-loop-i l = NoFeed (take l.i l.bytes)
