use Rattle.chain_blocks.proofs.Spans.{reads_back}
use Rattle.chain_blocks.proofs.laws.a_chain_reads_back.Goals as goal

pub returns : goal.returns
returns c = reads_back
