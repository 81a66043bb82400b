use Rattle.std.proofs.Common.{rules}
use Rattle.dne_cli.specs.Image.{word32}
use Rattle.dne_cli.proofs.image.put32.Goals as goal

pub returns-clause-bytes : goal.returns-clause-bytes
unfolding word32
returns-clause-bytes c = search rules
