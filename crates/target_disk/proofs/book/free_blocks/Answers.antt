use Rattle.chain_blocks.specs.Chains.{numbers}
use Rattle.target_disk.proofs.Formatting.{blank_count}
use Rattle.target_disk.proofs.book.free_blocks.Goals as goal

pub returns : goal.returns
returns c = (numbers 0 c.args.count, c.in_ok-new.ensures, blank_count c.in_ok-new.field-0 c.args.count c.in_ok-new.ensures)
