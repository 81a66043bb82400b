-- What it is to be the transcript of a scenario, which numbers the lines of one accept, and some places of scenarios.
use Rattle.std.specs.Prelude.{◌≡◌, ◌≢◌, ℕ, true, false, map, replicate, List, [], ◌∷◌, ◌++◌}
use Rattle.std.specs.List.{AllByRecursion, flat_map}
use Rattle.scenario_text.specs.declared.line.Line.{Line}
use Rattle.scenario_text.specs.declared.line.Line.TheVariants as lines
use Rattle.tree_model.specs.Tree.{root_fid}
use Rattle.tree_model.specs.declared.op.Op.TheVariants as ops
use Rattle.tree_model.specs.declared.op.Request.{Request}
use Rattle.scenario_text.specs.declared.command.Command.{Command}
use Rattle.scenario_text.specs.declared.command.Command.TheVariants as commands
use Rattle.scenario_text.specs.Calm.{Told, is_calm, is_open, is_open_twice, may_be_unsettled, nothing_told, told_after, told_all}
use Rattle.scenario_text.specs.Spelling.{Order}
use Rattle.scenario_text.specs.Machine.{State, Group, Run, AllServed, start, nothing_asked, entries_of, scenario, transcript}

-- A whole run over the scenario and an honest disk, which owes nothing and has come to the end, has this
-- transcript.
abbrev pub IsTranscript : List ℕ → List ℕ → Type 0
IsTranscript bytes text =
    (gs : List Group) × (t : State) × Run (start true) gs t × AllServed nothing_asked [] gs × (t.asked.ended ≡ true)
    × (bytes ≡ scenario (entries_of gs)) × (text ≡ transcript gs)

-- the numbers of the accept lines, in order
abbrev pub accepts : Line → List ℕ
accepts (lines.Accept number reply on) = number ∷ []
accepts _ = []

abbrev pub accepted : List Line → List ℕ
accepted ls = flat_map accepts ls

-- no number stands twice
abbrev pub AreApart : List ℕ → Type 0
AreApart [] = Unit {0}
AreApart (n ∷ ns) = AllByRecursion (λ m. m ≢ n) ns × AreApart ns

-- PLACES

-- request 1
abbrev pub a_read : Request
a_read = record { number = 1; client = 0; op = ops.GetAttr root_fid }

-- two targets, then these commands, none of which has a line
abbrev pub told_of : List Command → Told
told_of cs = told_all nothing_told (map (λ c. record { entry = Order c; lines = [] }) (commands.Cluster 2 ∷ cs))

abbrev pub settled : List Command
settled = commands.Send a_read ∷ commands.Settle ∷ []

-- which of these places are calm
pub record AreCalm : Type 0 where
  pub made : is_calm (told_of []) ≡ true
  pub sent : is_calm (told_of (commands.Send a_read ∷ [])) ≡ false
  pub settled_once : is_calm (told_of settled) ≡ true
  pub few_commits : is_calm (told_of (settled ++ replicate 32 (commands.Commit 1))) ≡ true
  pub many_commits : is_calm (told_of (settled ++ replicate 33 (commands.Commit 1))) ≡ false
  pub again_settled : is_calm (told_of (settled ++ replicate 33 (commands.Commit 1) ++ commands.Settle ∷ [])) ≡ true
  pub dropped : is_calm (told_of (commands.Send a_read ∷ commands.Drop 1 ∷ commands.Settle ∷ [])) ≡ false
  pub unsettled : is_calm (told_after (told_of (commands.Send a_read ∷ [])) commands.Settle (lines.Unsettled ∷ [])) ≡ false
  pub stopped : is_calm (told_after (told_of settled) (commands.Commit 1) (lines.Down 1 ∷ [])) ≡ false

-- at which of these places request 1 has no answer
pub record AreWaiting : Type 0 where
  pub sent : (told_of (commands.Send a_read ∷ [])).waiting ≡ 1 ∷ []
  pub answered : (told_after (told_of (commands.Send a_read ∷ [])) commands.Settle (lines.Recovering 1 0 ∷ [])).waiting ≡ []
  pub other : (told_after (told_of (commands.Send a_read ∷ [])) commands.Settle (lines.Recovering 2 0 ∷ [])).waiting ≡ 1 ∷ []
  pub lost : (told_of (commands.Send a_read ∷ commands.Drop 1 ∷ [])).waiting ≡ []

-- at which of them a settle may leave messages
pub record MayLeave : Type 0 where
  pub few : may_be_unsettled (told_of (replicate 32 (commands.Again 1))) ≡ false
  pub many : may_be_unsettled (told_of (replicate 33 (commands.Again 1))) ≡ true
  pub resent : may_be_unsettled (told_of (commands.Resend ∷ [])) ≡ true
  pub settled_again : may_be_unsettled (told_of (commands.Resend ∷ commands.Settle ∷ [])) ≡ false

-- at which of these commands request 1 is open
pub record AreOpen : Type 0 where
  pub sent : is_open (told_of (commands.Send a_read ∷ [])) commands.Settle 1 ≡ true
  pub settled_once : is_open (told_of settled) (commands.Commit 0) 1 ≡ false
  pub delivered : is_open (told_of settled) (commands.Deliver 1) 1 ≡ true
  pub again : is_open (told_of settled) (commands.Again 1) 1 ≡ true
  pub other : is_open (told_of settled) (commands.Deliver 1) 2 ≡ false
  pub once : is_open_twice (told_of settled) (commands.Again 1) 1 ≡ false
  pub twice : is_open_twice (told_of (settled ++ commands.Again 1 ∷ [])) (commands.Again 1) 1 ≡ true
