use Rattle.std.specs.Prelude.{if◌then◌else◌, nat_lt}
use Rattle.std.proofs.Common.{◌≡◌, ◌<◌, ◌+◌, ℕ, length, get_or}
use Rattle.chain_blocks.specs.Chains.{last_link}
use Rattle.chain_blocks.proofs.blocks.Blocks.new.Given as goal

abbrev pub invariant-loop-block : goal.invariant-loop-block
invariant-loop-block l = record {
  count : length l.links.items ≡ l.block;
  each : (k : ℕ) → k < l.block → get_or l.links.items k last_link ≡ (if nat_lt (k + 1) l.count then k + 1 else last_link);
}
