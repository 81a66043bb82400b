use Rattle.std.proofs.Common.{refl}
use Rattle.scenario_text.proofs.transcripts.waiting_requests.Goals as goal

pub returns : goal.returns
returns c = record { sent = refl; answered = refl; other = refl; lost = refl }
