use Rattle.std.specs.Io.KnownBytes.{IsAtEnd}
use Rattle.target_turns.specs.Disks.{calls_of}
use Rattle.cluster_player.proofs.Kept.{runs_keep, plays_keep}
use Rattle.cluster_player.proofs.laws.lines_keep_the_disks.Goals as goal

pub returns-clause-lines : goal.returns-clause-lines
returns-clause-lines g c = λ old new lines text. runs_keep (calls_of g.D.Disk.cycled g.D.Plant.armed) lines old new text

pub returns-clause-ends : goal.returns-clause-ends
returns-clause-ends g c = λ left old new. plays_keep (calls_of g.D.Disk.cycled g.D.Plant.armed) (IsAtEnd left) old new
