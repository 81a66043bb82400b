use Rattle.std.proofs.Common.{◌≡◌, ◌≤◌, ◌+◌, List, ℕ, [], length}
use Rattle.chain_blocks.specs.Marks.{Marked, unmarked}
use Rattle.chain_blocks.proofs.Marking.{Walking}
use Rattle.chain_blocks.proofs.marks.mark_chain.Given as goal

abbrev pub invariant-loop-block : goal.invariant-loop-block
invariant-loop-block l = record {
  len : length l.marks.items ≡ length l.initial.marks.items;
  bound : l.count + unmarked l.marks.items ≤ length l.links;
  walking : (seen : List ℕ) → Marked l.initial.marks.items l.mark seen [] → Walking l.links l.marks.items l.mark l.head l.block l.count seen;
}

abbrev pub decreases-loop-block : goal.decreases-loop-block
decreases-loop-block l = unmarked l.marks.items
