use Rattle.scenario_text.proofs.Worked.{empty_tree}
use Rattle.scenario_text.proofs.transcripts.empty_transcript.Goals as goal

pub returns : goal.returns
returns c = empty_tree
