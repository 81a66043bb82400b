use Rattle.std.specs.Prelude.{[]}
use Rattle.std.proofs.Common.{arith, sym}
use Rattle.chain_blocks.specs.Chains.{numbers}
use Rattle.chain_blocks.proofs.Trails.{holds_new, length-numbers}
use Rattle.chain_blocks.proofs.blocks.Blocks.new.Goals as goal

pub invariant_of-result : goal.invariant_of-result
invariant_of-result c = (numbers 0 c.args.count, [], holds_new c.loop-block.links.items c.args.count c.first_of.result (omega arith) (omega arith) (λ k lt. c.loop-block.invariant.each k (omega arith)) c.first_of.ensures, sym (length-numbers 0 c.args.count))

pub returns : goal.returns
returns c = holds_new c.loop-block.links.items c.args.count c.first_of.result (omega arith) (omega arith) (λ k lt. c.loop-block.invariant.each k (omega arith)) c.first_of.ensures
