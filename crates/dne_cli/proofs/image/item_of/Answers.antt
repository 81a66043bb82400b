use Rattle.std.proofs.Common.{rules}
use Rattle.dne_cli.specs.Image.{item_bytes, word32}
use Rattle.dne_cli.proofs.image.item_of.Goals as goal

pub returns-clause-bytes : goal.returns-clause-bytes
unfolding item_bytes word32
returns-clause-bytes c = search rules
