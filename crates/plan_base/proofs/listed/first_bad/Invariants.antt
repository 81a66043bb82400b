use Rattle.std.proofs.Common.{◌≡◌, drop}
use Rattle.byte_grammar.proofs.Search.{shift}
use Rattle.out_update.specs.Names.{first_bad}
use Rattle.plan_base.proofs.listed.first_bad.Given as goal

abbrev pub invariant-loop-i : goal.invariant-loop-i
invariant-loop-i l = first_bad l.bytes ≡ shift l.i (first_bad (drop l.i l.bytes))
