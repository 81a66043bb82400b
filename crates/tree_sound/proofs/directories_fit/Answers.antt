use Rattle.tree_sound.proofs.Story.{directories_fit}
use Rattle.tree_sound.proofs.directories_fit.Goals as goal

pub returns : goal.returns
returns c = record { fits = directories_fit }
