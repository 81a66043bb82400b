use Rattle.chain_blocks.proofs.Found.{found_lists}
use Rattle.chain_blocks.proofs.laws.the_lists_are_those_found.Goals as goal

pub returns : goal.returns
returns c = found_lists
