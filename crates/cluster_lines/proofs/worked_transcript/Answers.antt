use Rattle.cluster_lines.proofs.Worked.{worked}
use Rattle.cluster_lines.proofs.worked_transcript.Goals as goal

pub returns : goal.returns
returns c = worked
