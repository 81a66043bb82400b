use Rattle.std.proofs.Common.{rules}
use Rattle.dne_cli.specs.Kept.{no_flags}
use Rattle.dne_cli.proofs.session.flags.Goals as goal

pub returns : goal.returns
unfolding no_flags
returns c = search rules
