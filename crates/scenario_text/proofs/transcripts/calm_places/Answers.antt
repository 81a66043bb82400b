use Rattle.std.proofs.Common.{refl}
use Rattle.scenario_text.proofs.transcripts.calm_places.Goals as goal

pub returns : goal.returns
returns c = record { made = refl; sent = refl; settled_once = refl; few_commits = refl; many_commits = refl; again_settled = refl; dropped = refl; unsettled = refl; stopped = refl }
