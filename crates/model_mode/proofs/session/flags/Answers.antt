use Rattle.std.proofs.Common.{rules}
use Rattle.model_mode.specs.Kept.{no_flags}
use Rattle.model_mode.proofs.session.flags.Goals as goal

pub returns : goal.returns
unfolding no_flags
returns c = search rules
