-- The plain machine: which commands may come, which lines may be said, and what whole runs owe. Its
-- state is made from the commands and lines alone: it has one plain tree and no target's memory. So far
-- there is one target, number 0.
use Rattle.std.specs.Prelude.{◌≡◌, ◌≢◌, ◌<◌, ◌≤◌, ◌⊎◌, ◌+◌, ◌==◌, ◌||◌, ℕ, length, take, Bool, true, false, IsTrue, List, [], ◌∷◌, ◌++◌, map, Option, Some, None, unwrap_or, IsSome}
use Rattle.std.specs.List.{AllByRecursion, flat_map}
use Rattle.tree_model.specs.Tree.{Grown}
use Rattle.tree_model.specs.Step.{step}
use Rattle.tree_model.specs.History.{Item, tree_of}
use Rattle.tree_model.specs.Participants.{home_of}
use Rattle.tree_model.specs.Striped as striped
use Rattle.tree_model.specs.Kept.{laid_of}
use Rattle.tree_model.specs.declared.op.Request.{Request}
use Rattle.tree_model.specs.declared.reply.Reply.{Reply}
use Rattle.scenario_text.specs.Spelling.{Entry, Skip, Order, IsEntry, IsPlayedEntry, line_of}
use Rattle.scenario_text.specs.LineText.{texts}
use Rattle.scenario_text.specs.declared.command.Command.{Command}
use Rattle.scenario_text.specs.declared.command.Command.TheVariants as commands
use Rattle.scenario_text.specs.declared.line.Standing.{Standing}
use Rattle.scenario_text.specs.declared.line.Standing.TheVariants.{Serving, Opened, Down}
use Rattle.scenario_text.specs.declared.line.Line.{Line}
use Rattle.scenario_text.specs.declared.line.Line.TheVariants as lines

-- COMMANDS

-- what the lines so far have asked for: the cluster, where there is one, the end, and the requests
pub record Asked : Type 0 where
  pub cluster : Option ℕ
  pub ended : Bool
  pub sent : List Request

abbrev pub nothing_asked : Asked
nothing_asked = record { cluster = None; ended = false; sent = [] }

abbrev pub asked_by : Asked → Command → Asked
asked_by a (commands.Cluster targets) = record a { cluster = Some targets }
asked_by a (commands.Send r) = record a { sent = a.sent ++ r ∷ [] }
asked_by a (commands.Again number) = a
asked_by a (commands.Deliver message) = a
asked_by a (commands.Drop message) = a
asked_by a commands.Settle = a
asked_by a commands.Resend = a
asked_by a commands.List = a
asked_by a (commands.Log target) = a
asked_by a commands.Tree = a
asked_by a commands.End = record a { ended = true }
asked_by a (commands.Commit target) = a
asked_by a (commands.Crash target) = a
asked_by a (commands.Restart target) = a
asked_by a (commands.Fuse target after choice) = a

abbrev pub asked_after : Asked → Entry → Asked
asked_after a (Skip line) = a
asked_after a (Order c) = asked_by a c

-- a request with this number was sent
abbrev pub is_sent : List Request → ℕ → Bool
is_sent [] number = false
is_sent (r ∷ rs) number = (r.number == number) || is_sent rs number

-- between `cluster` and `end`
abbrev pub IsOpen : Option ℕ → Bool → Type 0
IsOpen cluster ended = IsSome cluster × (ended ≡ false)

-- when a command may come: `cluster` once, the others between it and `end`, a request with a number that
-- wasn't used, and once more with one that was
abbrev pub MayCome : Option ℕ → Bool → (ℕ → Bool) → Command → Type 0
MayCome cluster ended used (commands.Cluster targets) = cluster ≡ None
MayCome cluster ended used (commands.Send r) = IsOpen cluster ended × (used r.number ≡ false)
MayCome cluster ended used (commands.Again number) = IsOpen cluster ended × (used number ≡ true)
MayCome cluster ended used (commands.Deliver message) = IsOpen cluster ended
MayCome cluster ended used (commands.Drop message) = IsOpen cluster ended
MayCome cluster ended used commands.Settle = IsOpen cluster ended
MayCome cluster ended used commands.Resend = IsOpen cluster ended
MayCome cluster ended used commands.List = IsOpen cluster ended
MayCome cluster ended used (commands.Log target) = IsOpen cluster ended
MayCome cluster ended used commands.Tree = IsOpen cluster ended
MayCome cluster ended used commands.End = IsOpen cluster ended
MayCome cluster ended used (commands.Commit target) = IsOpen cluster ended
MayCome cluster ended used (commands.Crash target) = IsOpen cluster ended
MayCome cluster ended used (commands.Restart target) = IsOpen cluster ended
MayCome cluster ended used (commands.Fuse target after choice) = IsOpen cluster ended

-- what may stand on the next line; nothing may after `end`
abbrev pub MayStand : Option ℕ → Bool → (ℕ → Bool) → Entry → Type 0
MayStand cluster ended used (Skip line) = ended ≡ false
MayStand cluster ended used (Order c) = MayCome cluster ended used c

-- what a scenario may have on its next line
abbrev pub IsNext : Asked → Entry → Type 0
IsNext a e = IsEntry a.cluster e × MayStand a.cluster a.ended (is_sent a.sent) e

-- what may stand on one line of a scenario after another
abbrev pub AreNext : Asked → List Entry → Type 0
AreNext a [] = Unit {0}
AreNext a (e ∷ es) = IsNext a e × AreNext (asked_after a e) es

-- what the machine takes of it
abbrev pub IsTaken : Asked → Entry → Type 0
IsTaken a e = IsEntry a.cluster e × MayStand a.cluster a.ended (is_sent a.sent) e × IsPlayedEntry e

abbrev pub AreTaken : Asked → List Entry → Type 0
AreTaken a [] = Unit {0}
AreTaken a (e ∷ es) = IsTaken a e × AreTaken (asked_after a e) es

abbrev pub asked_all : Asked → List Entry → Asked
asked_all a [] = a
asked_all a (e ∷ es) = asked_all (asked_after a e) es

-- nothing that the machine takes on the next line is spelled so
abbrev pub IsRefused : Asked → List ℕ → Type 0
IsRefused a line = (e : Entry) → IsTaken a e → line ≢ line_of e

-- LINES

-- The state: what was asked for; what was accepted; the target's standing, and whether it is known by now
-- that its disk was formatted; the requests accepted there that no `stable` line has listed; its
-- transaction number as the last `stable` or `up` line left it. `honest` says whether its disk is honest:
-- that is the premise of what an `up` line tells.
pub record State : Type 0 where
  pub asked : Asked
  pub history : List Item
  pub standing : Standing
  pub formatted : Bool
  pub pend : List ℕ
  pub last : ℕ
  pub clean : Bool
  pub honest : Bool

abbrev pub start : Bool → State
start honest = record { asked = nothing_asked; history = []; standing = Down; formatted = false; pend = []; last = 0; clean = false; honest = honest }

-- the targets of the cluster, or 0 before there is one
abbrev pub targets_of : State → ℕ
targets_of s = unwrap_or s.asked.cluster 0

abbrev pub serves : Standing → Bool
serves Serving = true
serves Opened = false
serves Down = false

-- the disk was formatted, as a target shows that serves
abbrev pub is_formatted : State → Bool
is_formatted s = s.formatted || serves s.standing

-- a cluster is made with its target serving
abbrev pub standing_by : Standing → Command → Standing
standing_by s (commands.Cluster targets) = Serving
standing_by s (commands.Send r) = s
standing_by s (commands.Again number) = s
standing_by s (commands.Deliver message) = s
standing_by s (commands.Drop message) = s
standing_by s commands.Settle = s
standing_by s commands.Resend = s
standing_by s commands.List = s
standing_by s (commands.Log target) = s
standing_by s commands.Tree = s
standing_by s commands.End = s
standing_by s (commands.Commit target) = s
standing_by s (commands.Crash target) = s
standing_by s (commands.Restart target) = s
standing_by s (commands.Fuse target after choice) = s

abbrev pub standing_after : Standing → Entry → Standing
standing_after s (Skip line) = s
standing_after s (Order c) = standing_by s c

-- what a line of the scenario does by itself, before the lines that come of it
abbrev pub begun : State → Entry → State
begun s e = record s { asked = asked_after s.asked e; standing = standing_after s.standing e; formatted = is_formatted s }

abbrev pub Among : {X : Type 0} → List X → X → Type 0
Among [] x = ⊥
Among (y ∷ ys) x = (y ≡ x) ⊎ Among ys x

abbrev pub NextIs : Line → List Line → Type 0
NextIs line [] = ⊥
NextIs line (next ∷ rest) = next ≡ line

-- requests of one client whose operations have one home
abbrev pub SameSeat : ℕ → Request → Request → Type 0
SameSeat targets q r = (q.client ≡ r.client) × (home_of targets q.op ≡ home_of targets r.op)

-- no item has the number, and none of the client at this home has a greater one
abbrev pub IsNew : ℕ → List Item → Request → Type 0
IsNew targets history r =
    AllByRecursion (λ i. (i.request.number ≢ r.number) × (SameSeat targets i.request r → i.request.number ≤ r.number)) history

-- the item stands in the history, and its number is the greatest of its client at its home
abbrev pub IsLatest : ℕ → List Item → Item → Type 0
IsLatest targets history i =
    Among history i × AllByRecursion (λ j. SameSeat targets j.request i.request → j.request.number ≤ i.request.number) history

abbrev pub numbers_of : List Item → List ℕ
numbers_of items = map (λ i. i.request.number) items

-- A request that was sent is accepted with the tree's reply, on the targets that it is on; its reply comes next.
pub record Accepts (old : State) (number : ℕ) (reply : Reply) (on : ℕ) (others : List Line) (new : State) : Type 0 where
  pub request : Request
  pub sent : Among old.asked.sent request
  pub numbered : request.number ≡ number
  pub serving : old.standing ≡ Serving
  pub fresh : IsNew (targets_of old) old.history request
  pub replied : reply ≡ (step (targets_of old) (tree_of (targets_of old) old.history) request.op).1
  pub placed : on ≡ striped.on (targets_of old) (laid_of (targets_of old) old.history) request.op
  pub next : NextIs (lines.Reply number reply) others
  pub after : new ≡ record old { history = old.history ++ record { request = request; reply = reply } ∷ []; pend = old.pend ++ number ∷ [] }

-- A request that was accepted is answered with its reply.
pub record Answers (old : State) (number : ℕ) (reply : Reply) (new : State) : Type 0 where
  pub item : Item
  pub numbered : item.request.number ≡ number
  pub replied : item.reply ≡ reply
  pub serving : old.standing ≡ Serving
  pub latest : IsLatest (targets_of old) old.history item
  pub after : new ≡ old

-- A request that was sent is late: a greater number of its client was accepted at its home, and the
-- greatest of these is the last.
pub record IsStale (old : State) (number last : ℕ) (new : State) : Type 0 where
  pub request : Request
  pub sent : Among old.asked.sent request
  pub numbered : request.number ≡ number
  pub serving : old.standing ≡ Serving
  pub item : Item
  pub same_seat : SameSeat (targets_of old) item.request request
  pub latest : IsLatest (targets_of old) old.history item
  pub named : item.request.number ≡ last
  pub greater : number < last
  pub after : new ≡ old

-- A request that was sent has a home that doesn't serve.
pub record Recovers (old : State) (number target : ℕ) (new : State) : Type 0 where
  pub request : Request
  pub sent : Among old.asked.sent request
  pub numbered : request.number ≡ number
  pub home : home_of (targets_of old) request.op ≡ Some target
  pub stopped : serves old.standing ≡ false
  pub after : new ≡ old

-- What a disk may hold: a front of what was accepted, with all of it that was named stable. The
-- transaction number counts it.
pub record FitsFront (s : State) (transno : ℕ) (numbers : List ℕ) : Type 0 where
  pub stable : s.last ≤ transno
  pub accepted : transno ≤ length s.history
  pub front : numbers ≡ numbers_of (take transno s.history)

-- From old the machine may say the line, before these others, and goes on to new.
abbrev pub Says : State → Line → List Line → State → Type 0
Says old (lines.Accept number reply on) others new = Accepts old number reply on others new
Says old (lines.Reply number reply) others new = Answers old number reply new
Says old (lines.Stale number last) others new = IsStale old number last new
Says old (lines.Recovering number target) others new = Recovers old number target new
-- What is pending is stable now.
Says old (lines.Stable target numbers) others new =
    (old.standing ≡ Serving) × (numbers ≡ old.pend) × (new ≡ record old { pend = []; last = old.last + length old.pend })
Says old (lines.Down target) others new = new ≡ record old { standing = Down; pend = [] }
-- What an honest disk holds fits.
Says old (lines.Up target transno numbers) others new =
    (IsTrue old.honest → FitsFront old transno numbers) × (new ≡ record old { standing = Opened; formatted = true; last = transno })
-- An honest disk is never damaged.
Says old (lines.DamagedGates target gates) others new = (old.honest ≡ false) × (new ≡ old)
Says old (lines.DamagedImage target place) others new = (old.honest ≡ false) × (new ≡ old)
Says old (lines.State target standing) others new = (standing ≡ old.standing) × (new ≡ old)
-- The tree is that of the history.
Says old (lines.Tree grown) others new =
    (grown ≡ record { targets = targets_of old; tree = tree_of (targets_of old) old.history }) × (new ≡ old)
Says old (lines.TreeState target) others new = (serves old.standing ≡ false) × (new ≡ old)
Says old lines.EndClean others new = (old.standing ≡ Serving) × (new ≡ record old { clean = true })
Says old (lines.EndUnclean target) others new = (serves old.standing ≡ false) × (new ≡ old)
-- The others tell of messages and of several targets.
Says old _ others new = ⊥

abbrev pub SaysAll : State → List Line → State → Type 0
SaysAll old [] new = new ≡ old
SaysAll old (line ∷ others) new = (mid : State) × Says old line others mid × SaysAll mid others new

-- GROUPS

-- what stands on a line of the scenario, and the lines that come of it
pub record Group : Type 0 where
  pub entry : Entry
  pub lines : List Line

-- a line that answers a request
abbrev pub IsAnswer : Line → Type 0
IsAnswer (lines.Accept number reply on) = Unit {0}
IsAnswer (lines.Reply number reply) = Unit {0}
IsAnswer (lines.Stale number last) = Unit {0}
IsAnswer (lines.Recovering number target) = Unit {0}
IsAnswer _ = ⊥

-- a commit of a target by its standing: it is stable, or it stops; where it doesn't serve it says so
abbrev pub CommitLines : Standing → ℕ → List Line → Type 0
CommitLines Serving target ls = ((numbers : List ℕ) × (ls ≡ lines.Stable target numbers ∷ [])) ⊎ (ls ≡ lines.Down target ∷ [])
CommitLines Opened target ls = ls ≡ lines.State target Opened ∷ []
CommitLines Down target ls = ls ≡ lines.State target Down ∷ []

abbrev pub CrashLines : Standing → ℕ → List Line → Type 0
CrashLines Serving target ls = ls ≡ lines.Down target ∷ []
CrashLines Opened target ls = ls ≡ lines.Down target ∷ []
CrashLines Down target ls = ls ≡ lines.State target Down ∷ []

-- a restart of a target that is down: it comes up, or stays down; its disk may turn out to be damaged
abbrev pub RestartLines : Standing → ℕ → List Line → Type 0
RestartLines Serving target ls = ls ≡ lines.State target Serving ∷ []
RestartLines Opened target ls = ls ≡ lines.State target Opened ∷ []
RestartLines Down target ls =
    ((transno : ℕ) × (numbers : List ℕ) × (ls ≡ lines.Up target transno numbers ∷ []))
    ⊎ ((ls ≡ lines.Down target ∷ [])
    ⊎ (((gates : ℕ) × (ls ≡ lines.DamagedGates target gates ∷ []))
    ⊎ ((place : ℕ) × (ls ≡ lines.DamagedImage target place ∷ []))))

abbrev pub TreeLines : Standing → List Line → Type 0
TreeLines Serving ls = (grown : Grown) × (ls ≡ lines.Tree grown ∷ [])
TreeLines Opened ls = ls ≡ lines.TreeState 0 ∷ []
TreeLines Down ls = ls ≡ lines.TreeState 0 ∷ []

-- the end commits a target that serves
abbrev pub EndLines : Standing → List Line → Type 0
EndLines Serving ls =
    ((numbers : List ℕ) × (ls ≡ lines.Stable 0 numbers ∷ lines.EndClean ∷ [])) ⊎ (ls ≡ lines.Down 0 ∷ lines.EndUnclean 0 ∷ [])
EndLines Opened ls = ls ≡ lines.EndUnclean 0 ∷ []
EndLines Down ls = ls ≡ lines.EndUnclean 0 ∷ []

-- which lines a command may have, by the target's standing before it
abbrev pub IsGroup : Standing → Entry → List Line → Type 0
IsGroup s (Skip line) ls = ls ≡ []
IsGroup s (Order (commands.Cluster targets)) ls = (ls ≡ []) ⊎ (ls ≡ lines.Down 0 ∷ [])
IsGroup s (Order (commands.Send r)) ls = ls ≡ []
IsGroup s (Order commands.Settle) ls = AllByRecursion IsAnswer ls
IsGroup s (Order commands.Tree) ls = TreeLines s ls
IsGroup s (Order commands.End) ls = EndLines s ls
IsGroup s (Order (commands.Commit target)) ls = CommitLines s target ls
IsGroup s (Order (commands.Crash target)) ls = CrashLines s target ls
IsGroup s (Order (commands.Restart target)) ls = RestartLines s target ls
IsGroup s (Order (commands.Fuse target after choice)) ls = ls ≡ []
-- The others aren't played so far.
IsGroup s (Order _) ls = ⊥

-- A turn: what may stand on a line, and its group of lines, each of which the machine may say.
abbrev pub Turn : State → Group → State → Type 0
Turn old g new = IsTaken old.asked g.entry × IsGroup old.standing g.entry g.lines × SaysAll (begun old g.entry) g.lines new

-- a run: turns one after another
abbrev pub Run : State → List Group → State → Type 0
Run old [] new = new ≡ old
Run old (g ∷ gs) new = (mid : State) × Turn old g mid × Run mid gs new

-- the entries, the lines, the bytes of the scenario and the text of a run
abbrev pub entries_of : List Group → List Entry
entries_of gs = map (λ g. g.entry) gs

abbrev pub lines_of : List Group → List Line
lines_of gs = flat_map (λ g. g.lines) gs

abbrev pub scenario : List Entry → List ℕ
scenario es = flat_map (λ e. line_of e ++ 10 ∷ []) es

abbrev pub transcript : List Group → List ℕ
transcript gs = texts (lines_of gs)

-- WHAT A RUN OWES

-- a line that answers the request with this number
abbrev pub AnswersRequest : ℕ → Line → Type 0
AnswersRequest number (lines.Reply n reply) = n ≡ number
AnswersRequest number (lines.Stale n last) = n ≡ number
AnswersRequest number (lines.Recovering n target) = n ≡ number
AnswersRequest number _ = ⊥

abbrev pub HasAnswer : ℕ → List Line → Type 0
HasAnswer number [] = ⊥
HasAnswer number (l ∷ ls) = AnswersRequest number l ⊎ HasAnswer number ls

abbrev pub HaveAnswers : List Request → List Line → Type 0
HaveAnswers rs ls = AllByRecursion (λ r. HasAnswer r.number ls) rs

abbrev pub is_settle : Entry → Bool
is_settle (Skip line) = false
is_settle (Order commands.Settle) = true
is_settle (Order _) = false

-- after a settle each of these requests has its answer among these lines
abbrev pub IsServed : Entry → List Request → List Line → Type 0
IsServed e sent ls = is_settle e ≡ true → HaveAnswers sent ls

-- Completeness: after each settle, every request that was sent before has its answer.
abbrev pub AllServed : Asked → List Line → List Group → Type 0
AllServed a said [] = Unit {0}
AllServed a said (g ∷ gs) =
    IsServed g.entry (asked_after a g.entry).sent (said ++ g.lines) × AllServed (asked_after a g.entry) (said ++ g.lines) gs
