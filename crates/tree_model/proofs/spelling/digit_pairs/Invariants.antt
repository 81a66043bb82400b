use Rattle.std.proofs.Common.{◌≡◌, ◌++◌, length}
use Rattle.std.specs.List.{flat_map}
use Rattle.fid_space.specs.HexText.{hex_byte}
use Rattle.tree_model.specs.Names.{AreBytes}
use Rattle.tree_model.proofs.spelling.digit_pairs.Given as goal

abbrev pub invariant-loop-rest : goal.invariant-loop-rest
invariant-loop-rest l = AreBytes l.bytes × (l.fn.word ≡ flat_map hex_byte l.bytes ++ l.rest)

abbrev pub decreases-loop-rest : goal.decreases-loop-rest
decreases-loop-rest l = length l.rest
