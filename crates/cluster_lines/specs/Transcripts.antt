-- What it is to be the transcript of a scenario of several targets.
use Rattle.std.specs.Prelude.{◌≡◌, ℕ, List}
use Rattle.std.specs.List.{AllByRecursion}
use Rattle.scenario_text.specs.Machine.{AreNext, Group, entries_of, nothing_asked, scenario, transcript}
use Rattle.update_protocol.specs.Machine.{State}
use Rattle.update_protocol.specs.Groups.{IsRun, made_with}
use Rattle.cluster_lines.specs.Plain.{ArePlain, plain_groups}

-- The lines may stand in a scenario one after another, and are its bytes; the text is that of their groups, of which the
-- plain machine has a run.
pub record IsClusterTranscript (bytes text : List ℕ) : Type 0 where
  pub groups : List Group
  pub state : State
  pub allowed : AreNext nothing_asked (entries_of groups)
  pub shaped : AllByRecursion (λ g. ArePlain 0 g.lines) groups
  pub run : IsRun (made_with 0) (plain_groups groups) state
  pub spelled : bytes ≡ scenario (entries_of groups)
  pub written : text ≡ transcript groups
