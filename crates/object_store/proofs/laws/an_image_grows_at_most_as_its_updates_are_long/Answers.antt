use Rattle.out_update.specs.Spelling.{FitsUpdate}
use Rattle.object_store.proofs.Spelled.{by_steps}
use Rattle.object_store.proofs.Growth.{one_grows, all_grow}
use Rattle.object_store.proofs.laws.an_image_grows_at_most_as_its_updates_are_long.Goals as goal

pub returns-clause-one : goal.returns-clause-one
returns-clause-one c = one_grows

pub returns-clause-all : goal.returns-clause-all
returns-clause-all c = λ m us all. all_grow m us (by_steps FitsUpdate us all)
