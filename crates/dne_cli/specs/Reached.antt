-- How far a session has come, for its own contracts.
use Rattle.std.specs.Prelude.{◌≡◌, ◌≢◌, ◌<◌, ◌≤◌, ◌⊎◌, ◌+◌, ◌==◌, max, length, take, ℕ, Bool, true, false, IsTrue, List, [], ◌∷◌, Option, Some, None, IfSome, if◌then◌else◌}
use Rattle.std.specs.List.{AllByRecursion}
use Rattle.outside.specs.Disk.{Shown, IsImage}
use Rattle.target_disk.specs.Tables.{opened}
use Rattle.target_disk.specs.Store.{IsSettled}
use Rattle.tree_model.specs.History.{Item, tree_of}
use Rattle.tree_model.specs.OpText.{IsOp}
use Rattle.tree_model.specs.declared.op.Request.{Request}
use Rattle.scenario_text.specs.Spelling.{Entry, Skip, Order, IsCommand, IsPlayedEntry, IsSkipped, is_create, line_of}
use Rattle.scenario_text.specs.LineText.{texts}
use Rattle.scenario_text.specs.Machine.{Asked, State, Among, HasAnswer, MayStand, is_formatted, is_sent, lines_of, targets_of}
use Rattle.scenario_text.specs.declared.line.Line.{Line}
use Rattle.scenario_text.specs.declared.line.Standing.{Standing}
use Rattle.scenario_text.specs.declared.line.Standing.TheVariants.{Serving, Opened, Down}
use Rattle.dne_cli.specs.Image.{items_bytes, image_of}
use Rattle.dne_cli.specs.Kept.{Kept, Held, Ledger, Does, is_used, seat_of, standing_of}
use Rattle.line_player.specs.Played.{Rules, rules_of}
use Rattle.dne_cli.specs.Disks.{Calls, Touches, made_all}
use Rattle.dne_cli.specs.Transcript.{Place}

-- the greatest number of a client in a history, or 0
abbrev pub greatest : ℕ → List Item → ℕ
greatest client [] = 0
greatest client (i ∷ h) = max (if i.request.client == client then i.request.number else 0) (greatest client h)

-- what a target that serves keeps of a history, of which these numbers aren't stable
pub record Matches (targets : ℕ) (history : List Item) (pending : List ℕ) (l : Ledger) : Type 0 where
  pub tree : l.tree ≡ record { targets = targets; tree = tree_of targets history }
  pub count : l.count ≡ length history
  pub bytes : l.bytes ≡ items_bytes history
  pub size : length l.seats ≡ 256
  pub seats : (client : ℕ) → client < 256 → seat_of l client ≡ greatest client history
  pub pend : l.pend ≡ pending

-- no item has the request's number
abbrev pub IsFree : List Item → Request → Type 0
IsFree h r = AllByRecursion (λ i. i.request.number ≢ r.number) h

-- requests with different numbers
abbrev pub AreDistinct : List Request → Type 0
AreDistinct [] = Unit {0}
AreDistinct (r ∷ rs) = AllByRecursion (λ q. q.number ≢ r.number) rs × AreDistinct rs

-- the commit of a front of a history, so long
pub record StandsAt (last : ℕ) (history : List Item) (disk : Shown) : Type 0 where
  pub generation : ℕ
  pub accepted : last ≤ length history
  pub settled : IsSettled disk (record { generation = generation; bytes = image_of (take last history) })

-- an image that opens as the commit of a front of a history, at least so long
pub record OpensAsFront (last : ℕ) (history : List Item) (image : List ℕ) : Type 0 where
  pub generation : ℕ
  pub count : ℕ
  pub stable : last ≤ count
  pub accepted : count ≤ length history
  pub opens : opened image ≡ Some (record { generation = generation; bytes = image_of (take count history) })

-- what a disk holds by the target's standing
abbrev pub Stored : Standing → ℕ → List Item → Shown → Type 0
Stored Serving last history disk = StandsAt last history disk
Stored Opened last history disk = StandsAt last history disk
Stored Down last history disk = (image : List ℕ) → IsImage disk.settled image → OpensAsFront last history image

-- a request that is played, in a cluster of one target
abbrev pub IsPlayedRequest : Request → Type 0
IsPlayedRequest r = (1 ≤ r.number) × (r.number ≤ 65536) × (r.client < 64) × IsOp 1 r.op × (is_create r.op ≡ true)

-- what a session keeps of what was asked for and accepted, after these lines of the transcript
pub record AsksSame (a : Asked) (history : List Item) (said : List Line) (k : Kept) : Type 0 where
  pub cluster : k.cluster ≡ a.cluster
  pub ended : k.ended ≡ a.ended
  pub used : (n : ℕ) → n ≤ 65536 → is_used k.used n ≡ is_sent a.sent n
  pub flags : length k.used ≡ 65537
  pub one : (n : ℕ) → a.cluster ≡ Some n → n ≡ 1
  pub requests : AllByRecursion IsPlayedRequest a.sent
  pub accepted : AllByRecursion (λ i. Among a.sent i.request) history
  pub wait : AllByRecursion (λ r. Among a.sent r) k.waiting
  pub free : AllByRecursion (IsFree history) k.waiting
  pub apart : AreDistinct k.waiting
  pub answered : AllByRecursion (λ r. HasAnswer r.number said ⊎ Among k.waiting r) a.sent

-- what a target keeps of the machine's state
pub record HoldsSame (s : State) (h : Held) : Type 0 where
  pub standing : s.standing ≡ standing_of h
  pub formatted : is_formatted s ≡ h.formatted
  pub up : (s.standing ≡ Down → ⊥) → h.formatted ≡ true
  pub ledger : IfSome h.ledger (Matches (targets_of s) s.history s.pend)
  pub counted : s.standing ≡ Serving → s.last + length s.pend ≡ length s.history
  pub clean : s.clean ≡ true → (s.asked.ended ≡ true) × (s.standing ≡ Serving) × (s.pend ≡ [])
  pub honest : s.honest ≡ h.disk.honest
  pub new : s.asked.cluster ≡ None → (s.history ≡ []) × (s.pend ≡ []) × (s.last ≡ 0) × (h.formatted ≡ false) × (s.clean ≡ false)
  pub fresh : h.formatted ≡ false → (s.history ≡ []) × (s.last ≡ 0)
  pub stored : IsTrue s.honest → h.formatted ≡ true → Stored s.standing s.last s.history h.disk

-- what a session keeps of the machine's state, after these lines of the transcript, and so many of the
-- scenario
pub record Agrees (s : State) (said : List Line) (lines : ℕ) (k : Kept) : Type 0 where
  pub asks : AsksSame s.asked s.history said k
  pub few : length s.history + length k.waiting ≤ lines
  pub holds : HoldsSame s k.target

-- a session has come to this place
pub record Reached (calls : Calls) (first : Shown) (lines : List (List ℕ)) (text : List ℕ) (k : Kept) : Type 0 where
  pub place : Place calls first k.target.disk lines text
  pub made : made_all false place.groups ≡ k.target.formatted
  pub agrees : Agrees place.state (lines_of place.groups) (length lines) k

-- a line that is skipped, or a command that has a spelling
abbrev pub IsSpelled : Option ℕ → Entry → Type 0
IsSpelled cluster (Skip line) = IsSkipped line
IsSpelled cluster (Order c) = IsCommand cluster c

-- what may stand on a session's next line
abbrev pub Stands : Kept → Entry → Type 0
Stands k e = IsSpelled k.cluster e × MayStand k.cluster k.ended (is_used k.used) e × IsPlayedEntry e

-- the line stands, and this is what comes of it
abbrev pub Takes : Calls → Kept → Kept → List ℕ → List ℕ → Type 0
Takes calls old new line more = (e : Entry) × (ls : List Line) × Stands old e × (line ≡ line_of e) × Does calls old e new ls × (more ≡ texts ls)

-- nothing that may stand on the line is spelled so
abbrev pub IsBad : Kept → List ℕ → Type 0
IsBad k line = (e : Entry) → Stands k e → line ≢ line_of e

-- what the rules of a session are
abbrev pub session_takes : Calls → Kept → List ℕ → Kept → List ℕ → Type 0
session_takes calls old line new more = Takes calls old new line more × Touches old.target.disk new.target.disk

abbrev pub session_leaves : Kept → Kept → Type 0
session_leaves old new = Touches old.target.disk new.target.disk

abbrev pub session_ended : Kept → Bool
session_ended k = k.ended

abbrev pub session_rules : Calls → Kept → Kept → Rules
session_rules calls old new = rules_of (session_takes calls) IsBad session_leaves session_ended old new
