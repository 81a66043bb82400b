-- A target as contracts see it, what its disk did in a turn, and what a turn makes.
use Rattle.std.specs.Prelude.{ℕ, Bool, true, false, List, [], ◌∷◌, ◌++◌}
use Rattle.outside.specs.Disk.{Shown}
use Rattle.update_record.specs.declared.message.Message.{Message}
use Rattle.scenario_text.specs.declared.line.Line.{Line}
use Rattle.scenario_text.specs.declared.line.Standing.{Standing}
use Rattle.scenario_text.specs.declared.line.Standing.TheVariants as standing
use Rattle.target_state.specs.State.{TargetState, first_state}
use Rattle.update_coordinator.specs.Coordinating.{Coordinating, first_coordinating}

-- `targets` is how many the cluster has, `index` its number there, `home` what it knows as the home of requests,
-- `sent_mark` the mark that it last sent by a Cancel, and `formatted` whether a formatting of its disk went well and
-- none failed since. One that is down knows nothing.
pub record Target : Type 0 where
  pub targets : ℕ
  pub index : ℕ
  pub standing : Standing
  pub node : TargetState
  pub home : Coordinating
  pub sent_mark : ℕ
  pub formatted : Bool
  pub disk : Shown

-- a target that is down, or was only opened, has no requests of its own
abbrev pub no_home : Coordinating
no_home = first_coordinating 0 0 0

abbrev pub target_down : ℕ → ℕ → Bool → Shown → Target
target_down targets index formatted disk = record { targets = targets; index = index; standing = standing.Down; node = first_state 0 0; home = no_home; sent_mark = 0; formatted = formatted; disk = disk }

abbrev pub target_opened : ℕ → ℕ → TargetState → Shown → Target
target_opened targets index node disk = record { targets = targets; index = index; standing = standing.Opened; node = node; home = no_home; sent_mark = 0; formatted = true; disk = disk }

-- one that serves
abbrev pub target_up : ℕ → ℕ → TargetState → Coordinating → ℕ → Shown → Target
target_up targets index node home sent_mark disk = record { targets = targets; index = index; standing = standing.Serving; node = node; home = home; sent_mark = sent_mark; formatted = true; disk = disk }

abbrev pub is_serving : Standing → Bool
is_serving standing.Serving = true
is_serving standing.Opened = false
is_serving standing.Down = false

abbrev pub serves : Target → Bool
serves t = is_serving t.standing

-- What a disk did in a turn is read off the target after it: what it shows, and whether the target still serves.
pub record Fate : Type 0 where
  pub disk : Shown
  pub up : Bool

abbrev pub fate_of : Target → Fate
fate_of t = record { disk = t.disk; up = serves t }

-- what a turn makes: the target after it, its lines, and the messages that it sends
pub record Turned : Type 0 where
  pub target : Target
  pub lines : List Line
  pub sent : List Message

abbrev pub quiet : Target → Turned
quiet t = record { target = t; lines = []; sent = [] }

abbrev pub says : Target → List Line → Turned
says t ls = record { target = t; lines = ls; sent = [] }

abbrev pub sends : Target → List Message → Turned
sends t ms = record { target = t; lines = []; sent = ms }

-- one piece, then another from the target that it leaves
abbrev pub joins : Turned → Turned → Turned
joins u v = record { target = v.target; lines = u.lines ++ v.lines; sent = u.sent ++ v.sent }
