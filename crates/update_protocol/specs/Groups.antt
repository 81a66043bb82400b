-- Which lines a command may have, by the state before it, and whole runs of the plain machine.
use Rattle.std.specs.Prelude.{List, [], true, ℕ, suc, ◌++◌, ◌<◌, ◌≤◌, ◌∷◌, ◌≡◌, ◌⊎◌}
use Rattle.tree_model.specs.declared.op.Request.{Request}
use Rattle.tree_model.specs.Tree.{Tree}
use Rattle.update_protocol.specs.Machine.{SaysAll, State, Standing, Serving, Opened, Down, Line, Accept, Replies, Done, Busy, Stale, Full, Recovering, Ignored, Undelivered, Unsettled, Shared, Stable, Stopped, Up, Stands, Redone, Missing, Recovered, Shows, Tree_stands, Tree_busy, Log, End_clean, End_target, End_request, Listed}

pub data Command : Type 0 where
  Cluster : (targets : ℕ) → Command
  Send : (request : Request) → Command
  Again : (number : ℕ) → Command
  Deliver : (message : ℕ) → Command
  Drop : (message : ℕ) → Command
  Settle : Command
  Resend : Command
  Fuse : (target after choice : ℕ) → Command
  Commit : (target : ℕ) → Command
  Crash : (target : ℕ) → Command
  Restart : (target : ℕ) → Command
  Recover : Command
  Tree_shown : Command
  Log_shown : (target : ℕ) → Command
  Messages_shown : Command
  End : Command

-- the first target that doesn't serve; the first that is down
abbrev pub IsLowest : (Standing → Type 0) → (ℕ → Standing) → ℕ → ℕ → Type 0
IsLowest test standing targets t = (t < targets) × test (standing t) × ((u : ℕ) → u < t → test (standing u) → ⊥)

abbrev pub Fails : Standing → Type 0
Fails Serving = ⊥
Fails Opened = Unit {0}
Fails Down = Unit {0}

abbrev pub IsDown : Standing → Type 0
IsDown Serving = ⊥
IsDown Opened = ⊥
IsDown Down = Unit {0}

-- lines of deliveries: behind each `shared` of a target comes its commit, which is stable or stops, and none comes else
abbrev pub AreDeliveries : List Line → Type 0
AreDeliveries [] = Unit {0}
AreDeliveries (Shared t n m ∷ Stable u ns ∷ more) = (u ≡ t) × AreDeliveries more
AreDeliveries (Shared t n m ∷ Stopped u ∷ more) = (u ≡ t) × AreDeliveries more
AreDeliveries (Accept n r on ∷ more) = AreDeliveries more
AreDeliveries (Replies n r ∷ more) = AreDeliveries more
AreDeliveries (Done n t ∷ more) = AreDeliveries more
AreDeliveries (Busy n m ∷ more) = AreDeliveries more
AreDeliveries (Stale n m ∷ more) = AreDeliveries more
AreDeliveries (Full n t l k ∷ more) = AreDeliveries more
AreDeliveries (Recovering n t ∷ more) = AreDeliveries more
AreDeliveries (Ignored k ∷ more) = AreDeliveries more
AreDeliveries _ = ⊥

-- `stable` lines of these targets, ascending from one on
abbrev pub AreStable : (ℕ → Type 0) → ℕ → ℕ → List Line → Type 0
AreStable these t targets [] = (u : ℕ) → t ≤ u → u < targets → these u → ⊥
AreStable these t targets (Stable u ns ∷ more) =
    (t ≤ u) × (u < targets) × these u × ((v : ℕ) → t ≤ v → v < u → these v → ⊥) × AreStable these (suc u) targets more
AreStable these t targets _ = ⊥

-- `redone` lines, ascending from one on, each of a target with a record that it lacks
abbrev pub AreRedone : ℕ → List Line → Type 0
AreRedone t [] = Unit {0}
AreRedone t (Redone u ns ∷ more) = (t ≤ u) × (ns ≡ [] → ⊥) × AreRedone (suc u) more
AreRedone t _ = ⊥

abbrev pub IsFront : List Line → List Line → Type 0
IsFront front whole = (rest : List Line) × (whole ≡ front ++ rest)

-- A target is committed as a recovery begins: it serves, or an earlier recovery that stopped left it with something pending.
abbrev pub IsGathered : State → ℕ → Type 0
IsGathered s t = (s.standing t ≡ Serving) ⊎ ((s.standing t ≡ Opened) × (s.pend t ≡ [] → ⊥))

-- a whole recovery: what is pending is committed, what is missing is redone
abbrev pub AreGathered : State → List Line → Type 0
AreGathered s ls = (stable redone : List Line) × AreStable (IsGathered s) 0 s.targets stable × AreRedone 0 redone × (ls ≡ stable ++ redone)

abbrev pub IsWhole : State → List Line → Type 0
IsWhole s ls = (steps : List Line) × (epoch : ℕ) × (kept lost : List ℕ) × AreGathered s steps × (ls ≡ steps ++ Recovered epoch kept lost ∷ [])

-- one that a target's stop ends
abbrev pub IsBroken : State → List Line → Type 0
IsBroken s ls = (steps front : List Line) × (t : ℕ) × AreGathered s steps × IsFront front steps × (ls ≡ front ++ Stopped t ∷ Missing t ∷ [])

abbrev pub RecoverLines : State → List Line → Type 0
RecoverLines s ls =
    ((t : ℕ) × IsLowest IsDown s.standing s.targets t × (ls ≡ Missing t ∷ []))
    ⊎ (((t : ℕ) → t < s.targets → IsDown (s.standing t) → ⊥) × (IsWhole s ls ⊎ IsBroken s ls))

abbrev pub CommitLines : Standing → ℕ → List Line → Type 0
CommitLines Serving t ls = ((ns : List ℕ) × (ls ≡ Stable t ns ∷ [])) ⊎ (ls ≡ Stopped t ∷ [])
CommitLines Opened t ls = ls ≡ Stands t Opened ∷ []
CommitLines Down t ls = ls ≡ Stands t Down ∷ []

abbrev pub CrashLines : Standing → ℕ → List Line → Type 0
CrashLines Down t ls = ls ≡ Stands t Down ∷ []
CrashLines Serving t ls = ls ≡ Stopped t ∷ []
CrashLines Opened t ls = ls ≡ Stopped t ∷ []

abbrev pub RestartLines : Standing → ℕ → List Line → Type 0
RestartLines Down t ls = ((transno : ℕ) × (ns : List ℕ) × (ls ≡ Up t transno ns ∷ [])) ⊎ (ls ≡ Stopped t ∷ [])
RestartLines Serving t ls = ls ≡ Stands t Serving ∷ []
RestartLines Opened t ls = ls ≡ Stands t Opened ∷ []

abbrev pub TreeLines : (ℕ → Standing) → ℕ → List Line → Type 0
TreeLines standing targets ls =
    ((t : ℕ) × IsLowest Fails standing targets t × (ls ≡ Tree_stands t ∷ []))
    ⊎ (((t : ℕ) → t < targets → standing t ≡ Serving) × (((n : ℕ) × (ls ≡ Tree_busy n ∷ [])) ⊎ ((tree : Tree) × (ls ≡ Shows tree ∷ []))))

abbrev pub LogLines : Standing → ℕ → List Line → Type 0
LogLines Down t ls = ls ≡ Stands t Down ∷ []
LogLines Serving t ls = (records : List Listed) × (ls ≡ Log t records ∷ [])
LogLines Opened t ls = (records : List Listed) × (ls ≡ Log t records ∷ [])

-- the end commits each target, if all serve and no request is in flight
abbrev pub EndLines : (ℕ → Standing) → ℕ → List Line → Type 0
EndLines standing targets ls =
    ((t : ℕ) × IsLowest Fails standing targets t × (ls ≡ End_target t ∷ []))
    ⊎ (((t : ℕ) → t < targets → standing t ≡ Serving)
    × (((n : ℕ) × (ls ≡ End_request n ∷ []))
    ⊎ (((steps : List Line) × AreStable (λ t. standing t ≡ Serving) 0 targets steps × (ls ≡ steps ++ End_clean ∷ []))
    ⊎ ((steps front : List Line) × (t : ℕ) × AreStable (λ t. standing t ≡ Serving) 0 targets steps × IsFront front steps × (ls ≡ front ++ Stopped t ∷ End_target t ∷ [])))))

-- targets whose formatting failed, ascending
abbrev pub AreStopped : ℕ → ℕ → List Line → Type 0
AreStopped t targets [] = Unit {0}
AreStopped t targets (Stopped u ∷ more) = (t ≤ u) × (u < targets) × AreStopped (suc u) targets more
AreStopped t targets _ = ⊥

-- undelivered messages, ascending
abbrev pub AreMessages : ℕ → List Line → Type 0
AreMessages k [] = Unit {0}
AreMessages k (Undelivered m n ∷ more) = (k ≤ m) × AreMessages (suc m) more
AreMessages k _ = ⊥

abbrev pub IsGroup : State → Command → List Line → Type 0
IsGroup s (Cluster made) ls = AreStopped 0 made ls
IsGroup s (Send request) ls = ls ≡ []
IsGroup s (Again number) ls = ls ≡ []
IsGroup s (Drop message) ls = ls ≡ []
IsGroup s Resend ls = ls ≡ []
IsGroup s (Fuse target after choice) ls = ls ≡ []
IsGroup s (Deliver message) ls = AreDeliveries ls
IsGroup s Settle ls = AreDeliveries ls ⊎ ((front : List Line) × AreDeliveries front × (ls ≡ front ++ Unsettled ∷ []))
IsGroup s (Commit target) ls = CommitLines (s.standing target) target ls
IsGroup s (Crash target) ls = CrashLines (s.standing target) target ls
IsGroup s (Restart target) ls = RestartLines (s.standing target) target ls
IsGroup s Recover ls = RecoverLines s ls
IsGroup s Tree_shown ls = TreeLines s.standing s.targets ls
IsGroup s (Log_shown target) ls = LogLines (s.standing target) target ls
IsGroup s Messages_shown ls = AreMessages 0 ls
IsGroup s End ls = EndLines s.standing s.targets ls

-- RUNS

-- a cluster is made with its targets serving
abbrev pub made_with : ℕ → State
made_with targets = record {
  targets = targets;
  sent = [];
  epoch = 1;
  smooth = true;
  before = [];
  since = [];
  standing = λ t. Serving;
  pend = λ t. [];
  last = λ t. 0;
}

-- what a command does by itself, before its lines
abbrev pub begun : State → Command → State
begun s (Cluster targets) = made_with targets
begun s (Send request) = record s { sent = s.sent ++ request ∷ [] }
begun s (Again number) = s
begun s (Deliver message) = s
begun s (Drop message) = s
begun s Settle = s
begun s Resend = s
begun s (Fuse target after choice) = s
begun s (Commit target) = s
begun s (Crash target) = s
begun s (Restart target) = s
begun s Recover = s
begun s Tree_shown = s
begun s (Log_shown target) = s
begun s Messages_shown = s
begun s End = s

-- one command after another, each with the lines that come of it
abbrev pub IsRun : State → List (Command × List Line) → State → Type 0
IsRun s [] next = next ≡ s
IsRun s (g ∷ more) next = IsGroup (begun s g.0) g.0 g.1 × (mid : State) × SaysAll (begun s g.0) g.1 mid × IsRun mid more next
