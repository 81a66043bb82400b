-- The one spelling of each command: its words, parted by one space. And the lines that are skipped.
use Rattle.std.specs.Prelude.{◌≡◌, ◌≢◌, ◌<◌, ◌≤◌, ◌⊎◌, ℕ, Bool, true, false, List, [], ◌∷◌, codes, Option, Some, None}
use Rattle.std.specs.List.{join_with_byte, AllByRecursion}
use Rattle.std.specs.Fmt.{decimal}
use Rattle.tree_model.specs.OpText.{op_words, IsOp}
use Rattle.tree_model.specs.declared.op.Op.{Op}
use Rattle.tree_model.specs.declared.op.Op.TheVariants as ops
use Rattle.tree_model.specs.declared.op.Request.{Request}
use Rattle.scenario_text.specs.declared.command.Command.{Command}
use Rattle.scenario_text.specs.declared.command.Command.TheVariants as commands

abbrev pub words_of : Command → List (List ℕ)
words_of (commands.Cluster targets) = codes "cluster" ∷ decimal targets ∷ []
words_of (commands.Send r) = codes "send" ∷ decimal r.number ∷ decimal r.client ∷ op_words r.op
words_of (commands.Again number) = codes "again" ∷ decimal number ∷ []
words_of (commands.Deliver message) = codes "deliver" ∷ decimal message ∷ []
words_of (commands.Drop message) = codes "drop" ∷ decimal message ∷ []
words_of commands.Settle = codes "settle" ∷ []
words_of commands.Resend = codes "resend" ∷ []
words_of commands.List = codes "list" ∷ []
words_of (commands.Log target) = codes "log" ∷ decimal target ∷ []
words_of commands.Tree = codes "tree" ∷ []
words_of commands.End = codes "end" ∷ []
words_of (commands.Commit target) = codes "commit" ∷ decimal target ∷ []
words_of (commands.Crash target) = codes "crash" ∷ decimal target ∷ []
words_of (commands.Restart target) = codes "restart" ∷ decimal target ∷ []
words_of (commands.Fuse target after choice) = codes "fuse" ∷ decimal target ∷ decimal after ∷ decimal choice ∷ []

abbrev pub spelling : Command → List ℕ
spelling c = join_with_byte 32 (words_of c)

-- a request that can be sent to a cluster
abbrev pub IsRequest : Option ℕ → Request → Type 0
IsRequest None r = ⊥
IsRequest (Some targets) r = (1 ≤ r.number) × (r.number ≤ 65536) × (r.client < 64) × IsOp targets r.op

-- a target of the cluster
abbrev pub IsTarget : Option ℕ → ℕ → Type 0
IsTarget None target = ⊥
IsTarget (Some targets) target = (target < targets) × (target < 16)

-- what has a spelling, where this cluster was made
abbrev pub IsCommand : Option ℕ → Command → Type 0
IsCommand cluster (commands.Cluster targets) = (1 ≤ targets) × (targets ≤ 16)
IsCommand cluster (commands.Send r) = IsRequest cluster r
IsCommand cluster (commands.Again number) = (1 ≤ number) × (number ≤ 65536)
IsCommand cluster (commands.Deliver message) = message ≤ 4294967295
IsCommand cluster (commands.Drop message) = message ≤ 4294967295
IsCommand cluster commands.Settle = Unit {0}
IsCommand cluster commands.Resend = Unit {0}
IsCommand cluster commands.List = Unit {0}
IsCommand cluster (commands.Log target) = IsTarget cluster target
IsCommand cluster commands.Tree = Unit {0}
IsCommand cluster commands.End = Unit {0}
IsCommand cluster (commands.Commit target) = IsTarget cluster target
IsCommand cluster (commands.Crash target) = IsTarget cluster target
IsCommand cluster (commands.Restart target) = IsTarget cluster target
IsCommand cluster (commands.Fuse target after choice) = IsTarget cluster target × (after ≤ 1000000) × (choice ≤ 255)

-- a line that is skipped: it is empty, or begins with `#`
abbrev pub IsSkipped : List ℕ → Type 0
IsSkipped line = (line ≡ []) ⊎ ((rest : List ℕ) × (line ≡ 0x23 ∷ rest))

-- what stands on a line: something that is skipped, or a command
pub data Entry : Type 0 where
  Skip : (line : List ℕ) → Entry
  Order : (command : Command) → Entry

abbrev pub line_of : Entry → List ℕ
line_of (Skip line) = line
line_of (Order c) = spelling c

abbrev pub NoFeed : List ℕ → Type 0
NoFeed line = AllByRecursion (λ b. b ≢ 10) line

-- what may stand on a line, where this cluster was made
abbrev pub IsEntry : Option ℕ → Entry → Type 0
IsEntry cluster (Skip line) = IsSkipped line × NoFeed line
IsEntry cluster (Order c) = IsCommand cluster c

-- PLAYED SO FAR

abbrev pub is_create : Op → Bool
is_create (ops.Create parent name fid) = true
is_create _ = false

-- what is played so far, of the commands that have a spelling: one target, creates, and nothing that speaks of
-- messages or of a log
abbrev pub IsPlayed : Command → Type 0
IsPlayed (commands.Cluster targets) = targets ≡ 1
IsPlayed (commands.Send r) = is_create r.op ≡ true
IsPlayed (commands.Again number) = ⊥
IsPlayed (commands.Deliver message) = ⊥
IsPlayed (commands.Drop message) = ⊥
IsPlayed commands.Settle = Unit {0}
IsPlayed commands.Resend = ⊥
IsPlayed commands.List = ⊥
IsPlayed (commands.Log target) = ⊥
IsPlayed commands.Tree = Unit {0}
IsPlayed commands.End = Unit {0}
IsPlayed (commands.Commit target) = Unit {0}
IsPlayed (commands.Crash target) = Unit {0}
IsPlayed (commands.Restart target) = Unit {0}
IsPlayed (commands.Fuse target after choice) = Unit {0}

abbrev pub IsPlayedEntry : Entry → Type 0
IsPlayedEntry (Skip line) = Unit {0}
IsPlayedEntry (Order c) = IsPlayed c
