use Rattle.std.proofs.Common.{◌≡◌, length}
use Rattle.chain_blocks.proofs.Marking.{Heading}
use Rattle.chain_blocks.proofs.marks.mark_heads.Given as goal

abbrev pub invariant-loop-i : goal.invariant-loop-i
invariant-loop-i l = record {
  len : length l.marks.items ≡ length l.initial.marks.items;
  heading : Heading l.links l.heads l.marks.items l.i;
}
