use Rattle.std.proofs.Common.{◌≤◌, ℕ, List, length}
use Rattle.chain_blocks.specs.Chains.{Holds}
use Rattle.chain_blocks.proofs.Taking.{Taking}
use Rattle.chain_blocks.proofs.blocks.Blocks.take_chain.Given as goal

abbrev pub invariant-loop-i : goal.invariant-loop-i
invariant-loop-i l = record {
  taking : (free : List ℕ) → (chains : List (List ℕ)) → Holds l.fn.self free chains → l.count ≤ length free → Taking l._i free chains l.head l.tail l.self;
}
