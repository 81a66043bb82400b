use Rattle.std.proofs.Common.{refl}
use Rattle.scenario_text.proofs.transcripts.open_requests.Goals as goal

pub returns : goal.returns
returns c = record { sent = refl; settled_once = refl; delivered = refl; again = refl; other = refl; once = refl; twice = refl }
