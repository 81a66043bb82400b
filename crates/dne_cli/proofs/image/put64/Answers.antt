use Rattle.std.proofs.Common.{rules}
use Rattle.dne_cli.specs.Image.{word64}
use Rattle.dne_cli.proofs.image.put64.Goals as goal

pub returns-clause-bytes : goal.returns-clause-bytes
unfolding word64
returns-clause-bytes c = search rules
