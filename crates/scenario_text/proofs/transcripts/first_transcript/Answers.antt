use Rattle.scenario_text.proofs.Worked.{first}
use Rattle.scenario_text.proofs.transcripts.first_transcript.Goals as goal

pub returns : goal.returns
returns c = first
