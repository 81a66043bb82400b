use Rattle.std.proofs.Common.{refl}
use Rattle.scenario_text.proofs.transcripts.settles_that_leave_messages.Goals as goal

pub returns : goal.returns
returns c = record { few = refl; many = refl; resent = refl; settled_again = refl }
