use Rattle.object_store.proofs.Imaged.{one_value, no_prefix}
use Rattle.object_store.proofs.image.one_image_per_objects.Goals as goal

pub returns-clause-one_value : goal.returns-clause-one_value
returns-clause-one_value c = one_value

pub returns-clause-no_prefix : goal.returns-clause-no_prefix
returns-clause-no_prefix c = no_prefix
