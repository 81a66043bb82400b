use Rattle.std.proofs.Common.{ap}
use Rattle.target_state.specs.Image.{image_of}
use Rattle.target_state.specs.Opening.{restored_from}
use Rattle.target_state.proofs.opening.what_was_committed_is_read_back.Goals as goal

pub returns : goal.returns
returns c = λ s fits. ap restored_from (c.a_state_is_read_back.ensures (image_of s) fits)
