use Rattle.target_node.specs.Node.{saved}
use Rattle.target_node.proofs.Holding.{state_held}
use Rattle.target_node.proofs.laws.a_committed_state_is_held.Goals as goal

pub returns : goal.returns
returns c = λ disk g s image stands fits here.
    state_held image g s (c.a_disk_that_stands_opens_so.ensures disk (saved g s) stands image here) (c.what_was_committed_is_read_back.ensures s fits)
