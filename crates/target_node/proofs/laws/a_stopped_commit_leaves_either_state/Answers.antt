use Rattle.std.proofs.Common.{inl, inr}
use Rattle.target_node.proofs.Holding.{either_held}
use Rattle.target_node.proofs.laws.a_stopped_commit_leaves_either_state.Goals as goal

pub returns : goal.returns
returns c = λ disk g old new image opens fits fits_new here.
    either_held image g old new (opens image here) (c.what_was_committed_is_read_back.ensures old fits) (c.what_was_committed_is_read_back.ensures new fits_new)
