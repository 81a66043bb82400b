-- What is written of a scenario that is run on the plain tree alone, by the status.
use Rattle.std.specs.Prelude.{◌≡◌, ◌≢◌, ◌≤◌, ℕ, Bool, true, length, map, List}
use Rattle.std.specs.List.{AllByRecursion}
use Rattle.outside.specs.declared.status.Status.{Status}
use Rattle.scenario_text.specs.Refusals.{Closes}
use Rattle.scenario_text.specs.Spelling.{Entry, line_of}
use Rattle.scenario_text.specs.Machine.{Asked, nothing_asked, AreNext, IsNext, asked_all, scenario}
use Rattle.line_player.specs.Played.{Played, Rules}
use Rattle.model_mode.specs.Plain.{plain_transcript}

-- A place: the lines are what a scenario may have, and the text is the transcript of these lines.
pub record Place (lines : List (List ℕ)) (text : List ℕ) : Type 0 where
  pub entries : List Entry
  pub spelled : lines ≡ map line_of entries
  pub allowed : AreNext nothing_asked entries
  pub written : text ≡ plain_transcript entries

-- what was asked for by the lines of a place
abbrev pub asked_at : List Entry → Asked
asked_at es = asked_all nothing_asked es

-- nothing that a scenario may have on its next line is spelled so
abbrev pub IsBarred : Asked → List ℕ → Type 0
IsBarred a line = (e : Entry) → IsNext a e → line ≢ line_of e

-- what a player on the plain tree goes by
abbrev pub model_rules : Rules
model_rules = record {
  ran = λ lines text. Place lines text;
  ran_before = λ lines text. Place lines text;
  refuses = λ lines text line. (p : Place lines text) × IsBarred (asked_at p.entries) line;
  ends = λ over lines text. (p : Place lines text) × ((asked_at p.entries).ended ≡ over);
}

-- what was written, by the status, over the bytes that were read; AtEnd says that the input has nothing left
abbrev pub Outcome : Type 0 → Status → List ℕ → List ℕ → Type 0
Outcome AtEnd status read text = Played model_rules AtEnd status read text

-- A scenario in the grammar and inside the limits: what may stand on one line after another, the last of
-- them `end`.
pub record IsScenario (bytes : List ℕ) : Type 0 where
  pub entries : List Entry
  pub allowed : AreNext nothing_asked entries
  pub ended : (asked_at entries).ended ≡ true
  pub closes : Closes (Unit {0}) bytes (scenario entries)
  pub short : length bytes ≤ 67108864
  pub few : length entries ≤ 1000000
  pub lines_short : AllByRecursion (λ e. length (line_of e) ≤ 16384) entries
