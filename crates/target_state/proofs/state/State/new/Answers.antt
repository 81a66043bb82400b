use Rattle.target_state.proofs.Bounds.{first_bounded}
use Rattle.target_state.proofs.Spelling.{first_image}
use Rattle.target_state.proofs.state.State.new.Goals as goal

pub invariant_of-result : goal.invariant_of-result
invariant_of-result c = (tt, first_bounded c.args.index _ _ _ c.new.ensures c.in_ok-new.ensures c.in_ok-new-2.ensures, first_image c.args.index _ _ c.new.ensures c.in_ok-new.ensures)
