-- How far a session has come, for its own contracts.
use Rattle.std.specs.Prelude.{◌≡◌, ◌≢◌, ◌≤◌, length, ℕ, Bool, List, Option, None}
use Rattle.tree_model.specs.Tree.{Grown}
use Rattle.scenario_text.specs.Spelling.{Entry, Skip, Order, IsCommand, IsSkipped, line_of}
use Rattle.scenario_text.specs.Machine.{Asked, MayStand, is_sent}
use Rattle.line_player.specs.Played.{Rules, rules_of}
use Rattle.model_mode.specs.Plain.{said_after, tree_all}
use Rattle.model_mode.specs.Outcome.{Place, asked_at}
use Rattle.model_mode.specs.Kept.{Kept, cluster_of, is_used, kept_after}

-- what is kept of what was asked for, with the tree that came of it
pub record AsksSame (a : Asked) (t : Option Grown) (k : Kept) : Type 0 where
  pub tree : k.tree ≡ t
  pub cluster : cluster_of t ≡ a.cluster
  pub ended : k.ended ≡ a.ended
  pub used : (n : ℕ) → n ≤ 65536 → is_used k.used n ≡ is_sent a.sent n
  pub flags : length k.used ≡ 65537

-- a session has come to this place
pub record Reached (lines : List (List ℕ)) (text : List ℕ) (k : Kept) : Type 0 where
  pub place : Place lines text
  pub asks : AsksSame (asked_at place.entries) (tree_all None place.entries) k

-- a line that is skipped, or a command that has a spelling
abbrev pub IsSpelled : Option ℕ → Entry → Type 0
IsSpelled cluster (Skip line) = IsSkipped line
IsSpelled cluster (Order c) = IsCommand cluster c

-- what may stand on the next line
abbrev pub Stands : Kept → Entry → Type 0
Stands k e = IsSpelled (cluster_of k.tree) e × MayStand (cluster_of k.tree) k.ended (is_used k.used) e

-- the line stands, and this is what comes of it
abbrev pub Takes : Kept → List ℕ → Kept → List ℕ → Type 0
Takes old line new more = (e : Entry) × Stands old e × (line ≡ line_of e) × (new ≡ kept_after old e) × (more ≡ said_after old.tree e)

-- nothing that may stand on the line is spelled so
abbrev pub IsBad : Kept → List ℕ → Type 0
IsBad k line = (e : Entry) → Stands k e → line ≢ line_of e

-- want of memory leaves any state
abbrev pub session_leaves : Kept → Kept → Type 0
session_leaves old new = Unit {0}

abbrev pub session_ended : Kept → Bool
session_ended k = k.ended

abbrev pub session_rules : Kept → Kept → Rules
session_rules old new = rules_of Takes IsBad session_leaves session_ended old new
