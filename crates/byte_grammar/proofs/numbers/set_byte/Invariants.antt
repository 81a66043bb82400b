use Rattle.std.proofs.Common.{◌≡◌, drop}
use Rattle.byte_grammar.specs.Numbers.{first_set}
use Rattle.byte_grammar.proofs.Search.{shift}
use Rattle.byte_grammar.proofs.numbers.set_byte.Given as goal

abbrev pub invariant-loop-i : goal.invariant-loop-i
invariant-loop-i l = first_set l.bytes ≡ shift l.i (first_set (drop l.i l.bytes))
