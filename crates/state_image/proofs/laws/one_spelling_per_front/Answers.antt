use Rattle.state_image.proofs.Only.{front_only}
use Rattle.state_image.proofs.laws.one_spelling_per_front.Goals as goal

pub returns-clause-only : goal.returns-clause-only
returns-clause-only c = front_only
