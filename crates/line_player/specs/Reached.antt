-- How far a player has come, for its own contracts.
use Rattle.std.specs.Prelude.{◌≡◌, ◌≢◌, ◌≤◌, ◌⊎◌, ◌+◌, length, ℕ, Bool, List, [], ◌++◌}
use Rattle.std.specs.List.{AllByRecursion}
use Rattle.outside.specs.declared.status.Status.{Status}
use Rattle.outside.specs.declared.status.Status.TheVariants as statuses
use Rattle.scenario_text.specs.Refusals.{Closes, refusal}
use Rattle.line_player.specs.Played.{IsLine, Runs, bytes_of}
use Rattle.line_player.specs.declared.stop.Stop.{Stop}
use Rattle.line_player.specs.declared.stop.Stop.TheVariants as stops

-- The bytes are lines, which were run with the text, and the beginning of one that hasn't ended: so many
-- lines, and so many bytes in all.
pub record At {S : Type 0} (takes : S → List ℕ → S → List ℕ → Type 0) (first now : S) (read text line : List ℕ) (count total : ℕ) : Type 0 where
  pub lines : List (List ℕ)
  pub whole : read ≡ bytes_of lines ++ line
  pub partial : IsLine line
  pub ran : Runs takes first lines now text
  pub each : AllByRecursion IsLine lines
  pub counted : length lines ≡ count
  pub measured : length read ≡ total

-- all bytes were run, the last line too where it lacked its line feed
pub record Ended {S : Type 0} (takes : S → List ℕ → S → List ℕ → Type 0) (first now : S) (read text : List ℕ) (count : ℕ) : Type 0 where
  pub lines : List (List ℕ)
  pub closes : Closes (Unit {0}) read (bytes_of lines)
  pub ran : Runs takes first lines now text
  pub each : AllByRecursion IsLine lines
  pub counted : length lines ≡ count
  pub short : length read ≤ 67108864

-- what is written of a whole text where a run stops with it
abbrev pub Told : Stop → List ℕ → List ℕ → Type 0
Told stops.Refused whole more = more ≡ whole
Told stops.Memory whole more = more ≡ []
Told stops.Sink whole more = (rest : List ℕ) × (whole ≡ more ++ rest)

-- what is answered at a line, from a state to a state
abbrev pub StopsAt : {S : Type 0} → (S → List ℕ → S → List ℕ → Type 0) → (S → List ℕ → Type 0) → (S → S → Type 0) → Stop → S → S → List ℕ → ℕ → List ℕ → Type 0
StopsAt takes refuses leaves stops.Refused old new line number more = refuses old line × (new ≡ old) × (more ≡ refusal number)
StopsAt takes refuses leaves stops.Memory old new line number more = ((new ≡ old) ⊎ leaves old new) × (more ≡ [])
StopsAt takes refuses leaves stops.Sink old new line number more =
    (whole : List ℕ) × (rest : List ℕ) × (whole ≡ more ++ rest)
    × (takes old line new whole ⊎ (refuses old line × (new ≡ old) × (whole ≡ refusal number)))

abbrev pub status_of : Stop → Status
status_of stops.Refused = statuses.Refused
status_of stops.Memory = statuses.Memory
status_of stops.Sink = statuses.Sink
