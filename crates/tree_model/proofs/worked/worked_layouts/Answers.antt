use Rattle.tree_model.proofs.Scenarios.{laid_striped, laid_once, laid_twice}
use Rattle.tree_model.proofs.worked.worked_layouts.Goals as goal

pub returns : goal.returns
returns c = record { made = laid_striped; once = laid_once; twice = laid_twice }
