use Rattle.std.specs.Prelude.{◌∷◌, []}
use Rattle.chain_blocks.proofs.Trails.{taken_two}
use Rattle.disk_tests.proofs.chains.taken_again.Goals as goal

pub give-requires : goal.give-requires
give-requires c = taken_two c.in-Ok.blocks c.take.new.self c.take-2.new.self c.take.result c.take-2.result c.in-Ok-take.first c.in-Ok-take-2.second 0 1 (2 ∷ []) c.in-Ok.ensures c.in-Ok-take.is c.take.ensures c.in-Ok-take-2.is c.take-2.ensures
