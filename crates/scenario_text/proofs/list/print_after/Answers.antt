use Rattle.std.proofs.Common.{rules}
use Rattle.scenario_text.proofs.Members.{after_next, after_last}
use Rattle.scenario_text.proofs.list.print_after.Goals as goal

pub loop-i-preserved : goal.loop-i-preserved
loop-i-preserved c = after_next c.args.numbers.now c.loop-i.i c.in-Some.number c.loop-i.out _ _ (search rules) c.loop-i.invariant (search rules)

pub returns-in-None : goal.returns-in-None
returns-in-None c = after_last c.args.numbers.now c.loop-i.i c.loop-i.out _ (search rules) c.loop-i.invariant
