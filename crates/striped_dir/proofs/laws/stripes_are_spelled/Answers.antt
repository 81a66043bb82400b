use Rattle.striped_dir.proofs.Spelled.{spelled}
use Rattle.striped_dir.proofs.laws.stripes_are_spelled.Goals as goal

pub returns : goal.returns
returns c = record { spelled = spelled }
