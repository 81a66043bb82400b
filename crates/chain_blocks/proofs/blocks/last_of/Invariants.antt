use Rattle.std.proofs.Common.{◌≤◌, ◌<◌, ◌-◌, ℕ, List, ◌∷◌, length}
use Rattle.chain_blocks.specs.Chains.{IsTrail}
use Rattle.chain_blocks.proofs.Trails.{Reaches}
use Rattle.chain_blocks.proofs.blocks.last_of.Given as goal

abbrev pub invariant-loop-last : goal.invariant-loop-last
invariant-loop-last l = record {
  inside : l.last < length l.links.items;
  bound : l.count ≤ length l.links.items;
  reaches : (behind : List ℕ) → IsTrail l.links.items l.head (l.head ∷ behind) → Reaches l.links.items (l.head ∷ behind) l.last l.count;
}

abbrev pub decreases-loop-last : goal.decreases-loop-last
decreases-loop-last l = length l.links.items - l.count
