use Rattle.tree_sound.proofs.Story.{names_lead, parents_name, parents_are}
use Rattle.tree_sound.proofs.parents_name_their_directories.Goals as goal

pub returns : goal.returns
returns c = record { there = names_lead; once = parents_name; fids = parents_are }
