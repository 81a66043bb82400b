use Rattle.std.proofs.Common.{◌≡◌, ◌++◌, length}
use Rattle.tree_model.specs.Names.{AreBytes, name_word}
use Rattle.tree_model.proofs.spelling.spelled.Given as goal

abbrev pub invariant-loop-rest : goal.invariant-loop-rest
invariant-loop-rest l = AreBytes l.bytes.items × (l.fn.word ≡ name_word l.bytes.items ++ l.rest)

abbrev pub decreases-loop-rest : goal.decreases-loop-rest
decreases-loop-rest l = length l.rest
