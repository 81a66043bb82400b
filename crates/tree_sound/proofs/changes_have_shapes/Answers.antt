use Rattle.tree_sound.proofs.Shapes.{shapes}
use Rattle.tree_sound.proofs.changes_have_shapes.Goals as goal

pub returns : goal.returns
returns c = record { shape = shapes }
