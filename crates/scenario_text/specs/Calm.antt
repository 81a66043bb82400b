-- Calm places of a scenario, and the requests that are open at a command: by the commands and their lines alone.
use Rattle.std.specs.Prelude.{◌+◌, ◌||◌, ◌&&◌, ◌==◌, nat_lt, not, ℕ, Bool, true, false, List, [], ◌∷◌, ◌++◌, Option, Some, None, if◌then◌else◌}
use Rattle.std.specs.List.{list_any}
use Rattle.std.specs.Option.{option_map}
use Rattle.scenario_text.specs.declared.line.Line.{Line}
use Rattle.scenario_text.specs.declared.line.Line.TheVariants as lines
use Rattle.scenario_text.specs.declared.command.Command.{Command}
use Rattle.scenario_text.specs.declared.command.Command.TheVariants as commands
use Rattle.scenario_text.specs.Spelling.{Entry, Skip, Order}
use Rattle.scenario_text.specs.Machine.{Group}

-- What was told up to a place since the cluster was made: whether a message was lost or a target stopped; how many
-- commands that disturb nothing stand behind the last settle that left no message, or nothing where another command does;
-- the numbers of the requests that were sent, and of those that have no answer behind the last line that sent them,
-- with nothing lost behind it. And since the last calm place: how many commands stand there, and whether one of them
-- sent messages again; the numbers of the lines that sent a request, and whether a message was delivered by hand.
pub record Told : Type 0 where
  pub lost : Bool
  pub quiet : Option ℕ
  pub sent : List ℕ
  pub waiting : List ℕ
  pub commands : ℕ
  pub resent : Bool
  pub lately : List ℕ
  pub delivered : Bool

abbrev pub nothing_told : Told
nothing_told = record { lost = false; quiet = Some 0; sent = []; waiting = []; commands = 0; resent = false; lately = []; delivered = false }

-- at most 32 of them stand there
abbrev pub are_few : Option ℕ → Bool
are_few None = false
are_few (Some n) = nat_lt n 33

-- A calm place: nothing was lost and no target stopped, so all serve, and no message waits but what commits sent.
abbrev pub is_calm : Told → Bool
is_calm t = not t.lost && are_few t.quiet

abbrev pub is_stop : Line → Bool
is_stop (lines.Down target) = true
is_stop _ = false

abbrev pub is_unsettled : Line → Bool
is_unsettled lines.Unsettled = true
is_unsettled _ = false

abbrev pub is_loss : Command → Bool
is_loss (commands.Drop message) = true
is_loss _ = false

abbrev pub quiet_after : Option ℕ → Command → List Line → Option ℕ
quiet_after n (commands.Cluster targets) ls = Some 0
quiet_after n commands.Settle ls = if list_any is_unsettled ls then None else Some 0
quiet_after n commands.Tree ls = option_map (λ k. k + 1) n
quiet_after n commands.List ls = option_map (λ k. k + 1) n
quiet_after n (commands.Log target) ls = option_map (λ k. k + 1) n
quiet_after n (commands.Commit target) ls = option_map (λ k. k + 1) n
quiet_after n (commands.Fuse target after choice) ls = option_map (λ k. k + 1) n
quiet_after n _ ls = None

-- a line that answers the request with this number
abbrev pub answers : ℕ → Line → Bool
answers n (lines.Reply number reply) = n == number
answers n (lines.Busy number holder) = n == number
answers n (lines.Full number target load need) = n == number
answers n (lines.Stale number last) = n == number
answers n (lines.Recovering number target) = n == number
answers n _ = false

-- the numbers without an answer among these lines
abbrev pub unanswered : List Line → List ℕ → List ℕ
unanswered ls [] = []
unanswered ls (n ∷ ns) = if list_any (answers n) ls then unanswered ls ns else n ∷ unanswered ls ns

-- what a command tells by itself, before its lines
abbrev pub told_by : Told → Command → Told
told_by t (commands.Cluster targets) = nothing_told
told_by t (commands.Send r) = record t { sent = t.sent ++ r.number ∷ []; waiting = t.waiting ++ r.number ∷ []; lately = t.lately ++ r.number ∷ [] }
told_by t (commands.Again number) = record t { waiting = t.waiting ++ number ∷ []; lately = t.lately ++ number ∷ [] }
told_by t (commands.Deliver message) = record t { delivered = true }
told_by t commands.Resend = record t { resent = true }
told_by t _ = t

-- since a calm place nothing stands yet
abbrev pub come_to : Told → Told
come_to t = if is_calm t then record t { commands = 0; resent = false; lately = []; delivered = false } else t

-- whether a command with these lines loses something
abbrev pub loses : Command → List Line → Bool
loses c ls = is_loss c || list_any is_stop ls

-- what is told behind a command with these lines
abbrev pub told_after : Told → Command → List Line → Told
told_after t c ls =
    let u : Told = told_by t c in
    come_to (record u {
      lost = u.lost || loses c ls;
      quiet = quiet_after u.quiet c ls;
      waiting = if loses c ls then [] else unanswered ls u.waiting;
      commands = u.commands + 1;
    })

abbrev pub told_with : Told → Group → Told
told_with t g = told_in t g.entry g.lines
  where
    told_in : Told → Entry → List Line → Told
    told_in t (Skip line) ls = t
    told_in t (Order c) ls = told_after t c ls

abbrev pub told_all : Told → List Group → Told
told_all t [] = t
told_all t (g ∷ gs) = told_all (told_with t g) gs

-- OPEN REQUESTS

-- how often a number stands in a list
abbrev pub times : ℕ → List ℕ → ℕ
times n [] = 0
times n (x ∷ xs) = (if n == x then 1 else 0) + times n xs

-- A request that was sent is open at a command where, since the last calm place, a line sent it, or one delivered a
-- message by hand.
abbrev pub is_open : Told → Command → ℕ → Bool
is_open t c n = nat_lt 0 (times n (told_by t c).sent) && ((told_by t c).delivered || nat_lt 0 (times n (told_by t c).lately))

-- it may be open twice over: two lines sent it, or one delivered a message by hand
abbrev pub is_open_twice : Told → Command → ℕ → Bool
is_open_twice t c n = nat_lt 0 (times n (told_by t c).sent) && ((told_by t c).delivered || nat_lt 1 (times n (told_by t c).lately))

-- a settle may end before no message is left: since the last calm place messages were sent again, or many commands stand
abbrev pub may_be_unsettled : Told → Bool
may_be_unsettled t = t.resent || nat_lt 32 t.commands
