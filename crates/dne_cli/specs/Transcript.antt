-- What the program may write over the bytes that it reads, and what the disk then holds.
use Rattle.std.specs.Prelude.{◌≡◌, ◌≢◌, ◌≤◌, ℕ, true, false, IsTrue, length, map, take, List, []}
use Rattle.std.specs.List.{AllByRecursion}
use Rattle.outside.specs.Disk.{Shown, IsImage}
use Rattle.outside.specs.declared.status.Status.{Status}
use Rattle.scenario_text.specs.Refusals.{Closes}
use Rattle.scenario_text.specs.Spelling.{Entry, line_of}
use Rattle.scenario_text.specs.Machine.{nothing_asked, State, start, Group, Run, AllServed, AreTaken, FitsFront, IsRefused, asked_all, is_formatted, numbers_of, scenario, targets_of, transcript}
use Rattle.scenario_text.specs.declared.line.Standing.TheVariants.{Down}
use Rattle.line_player.specs.Played.{Played, Rules}
use Rattle.dne_cli.specs.Image.{Holds}
use Rattle.dne_cli.specs.Share.{HoldsShare}
use Rattle.dne_cli.specs.Disks.{Calls, Moves, Touches}

-- THE DISK

-- An image of the disk holds a front of what was accepted, with all that was named stable; and exactly
-- that where the target isn't down.
pub record Bears (s : State) (image : List ℕ) : Type 0 where
  pub count : ℕ
  pub fits : FitsFront s count (numbers_of (take count s.history))
  pub exact : s.standing ≢ Down → count ≡ s.last
  pub holds : Holds image (take count s.history)

-- Each image of an honest disk that was formatted is such a one, and after `end clean` it holds the share
-- of the tree.
pub record KeepsRun (s : State) (disk : Shown) : Type 0 where
  pub bears : IsTrue disk.honest → is_formatted s ≡ true → (image : List ℕ) → IsImage disk.settled image → Bears s image
  pub clean : IsTrue disk.honest → s.clean ≡ true → (image : List ℕ) → IsImage disk.settled image → HoldsShare (targets_of s) 0 s.history image

-- WHAT IS WRITTEN

abbrev pub lines_in : List Group → List (List ℕ)
lines_in gs = map (λ g. line_of g.entry) gs

-- A place: the lines are the entries of a run of the plain machine; the text is that of the run's lines, and
-- the run served what it owes. The disk came of that of the start by what each line does to it, and keeps
-- the run.
pub record Place (calls : Calls) (first disk : Shown) (lines : List (List ℕ)) (text : List ℕ) : Type 0 where
  pub groups : List Group
  pub state : State
  pub spelled : lines ≡ lines_in groups
  pub run : Run (start first.honest) groups state
  pub served : AllServed nothing_asked [] groups
  pub written : text ≡ transcript groups
  pub moves : Moves calls false first groups disk
  pub honest : disk.honest ≡ first.honest
  pub kept : KeepsRun state disk

-- what a player over a disk goes by, from the disk of the start to this one
abbrev pub play_rules : Calls → Shown → Shown → Rules
play_rules calls first disk = record {
  ran = λ lines text. Place calls first disk lines text;
  ran_before = λ lines text. (held : Shown) × Touches held disk × Place calls first held lines text;
  refuses = λ lines text line. (p : Place calls first disk lines text) × IsRefused p.state.asked line;
  ends = λ over lines text. (p : Place calls first disk lines text) × (p.state.asked.ended ≡ over);
}

-- what was written, by the status, over the bytes that were read; AtEnd says that the input has nothing left
abbrev pub Outcome : Calls → Type 0 → Shown → Shown → Status → List ℕ → List ℕ → Type 0
Outcome calls AtEnd first disk status read text = Played (play_rules calls first disk) AtEnd status read text

-- A scenario in the grammar and inside the limits, as far as it is played: what is taken on one line after
-- another, the last of them `end`.
pub record IsScenario (bytes : List ℕ) : Type 0 where
  pub entries : List Entry
  pub taken : AreTaken nothing_asked entries
  pub ended : (asked_all nothing_asked entries).ended ≡ true
  pub closes : Closes (Unit {0}) bytes (scenario entries)
  pub short : length bytes ≤ 67108864
  pub few : length entries ≤ 1000000
  pub lines_short : AllByRecursion (λ e. length (line_of e) ≤ 16384) entries
