use Rattle.tree_sound.proofs.Story.{base_sound, steps_sound, histories_sound}
use Rattle.tree_sound.proofs.histories_keep_trees_sound.Goals as goal

pub returns : goal.returns
returns c = record { base = base_sound; step = steps_sound; histories = histories_sound }
