use Rattle.std.specs.Prelude.{◌≡◌, ◌-◌}
use Rattle.dne_cli.specs.Image.{numbers_from}
use Rattle.dne_cli.proofs.Reading.{after}
use Rattle.dne_cli.proofs.image.read_items.Given as goal

abbrev pub invariant-loop-index : goal.invariant-loop-index
invariant-loop-index l = numbers_from l.end l.count l.bytes ≡ after l.numbers (numbers_from l.end (l.count - l.index) l.rest)
