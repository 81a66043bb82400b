use Rattle.std.proofs.Common.{arith}
use Rattle.std.proofs.lemmas.Grind.{common_steps}
use Rattle.dne_cli.specs.Image.{word32}
use Rattle.dne_cli.proofs.image.set_count.Goals as goal

pub returns : goal.returns
unfolding word32
returns c = grind (arith, common_steps)
