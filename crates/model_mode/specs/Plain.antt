-- The transcript of a scenario on one plain tree: the reply of each request, the tree where it is asked
-- for, and the end.
use Rattle.std.specs.Prelude.{ℕ, List, [], ◌∷◌, ◌++◌, codes, Option, Some, None}
use Rattle.std.specs.Option.{option_map}
use Rattle.tree_model.specs.Tree.{Grown, base}
use Rattle.tree_model.specs.TreeText.{tree_text}
use Rattle.tree_model.specs.Step.{step}
use Rattle.tree_model.specs.declared.op.Op.{Op}
use Rattle.tree_model.specs.declared.op.Request.{Request}
use Rattle.scenario_text.specs.LineText.{reply_line_text}
use Rattle.scenario_text.specs.Spelling.{Entry, Skip, Order}
use Rattle.scenario_text.specs.declared.command.Command.{Command}
use Rattle.scenario_text.specs.declared.command.Command.TheVariants as commands

abbrev pub new_tree : ℕ → Grown
new_tree targets = record { targets = targets; tree = base }

abbrev pub after_op : Op → Grown → Grown
after_op op g = record { targets = g.targets; tree = (step g.targets g.tree op).0 }

-- the tree after a command; before `cluster` there is none
abbrev pub tree_by : Option Grown → Command → Option Grown
tree_by t (commands.Cluster targets) = Some (new_tree targets)
tree_by t (commands.Send r) = option_map (after_op r.op) t
tree_by t (commands.Again number) = t
tree_by t (commands.Deliver message) = t
tree_by t (commands.Drop message) = t
tree_by t commands.Settle = t
tree_by t commands.Resend = t
tree_by t commands.List = t
tree_by t (commands.Log target) = t
tree_by t commands.Tree = t
tree_by t commands.End = t
tree_by t (commands.Commit target) = t
tree_by t (commands.Crash target) = t
tree_by t (commands.Restart target) = t
tree_by t (commands.Fuse target after choice) = t

abbrev pub reply_said : Option Grown → Request → List ℕ
reply_said None r = []
reply_said (Some g) r = reply_line_text r.number (step g.targets g.tree r.op).1

abbrev pub tree_said : Option Grown → List ℕ
tree_said None = []
tree_said (Some g) = tree_text g.tree

-- what is written at a command; what isn't named here does nothing
abbrev pub said_by : Option Grown → Command → List ℕ
said_by t (commands.Cluster targets) = []
said_by t (commands.Send r) = reply_said t r
said_by t (commands.Again number) = []
said_by t (commands.Deliver message) = []
said_by t (commands.Drop message) = []
said_by t commands.Settle = []
said_by t commands.Resend = []
said_by t commands.List = []
said_by t (commands.Log target) = []
said_by t commands.Tree = tree_said t
said_by t commands.End = codes "end\n"
said_by t (commands.Commit target) = []
said_by t (commands.Crash target) = []
said_by t (commands.Restart target) = []
said_by t (commands.Fuse target after choice) = []

abbrev pub tree_after : Option Grown → Entry → Option Grown
tree_after t (Skip line) = t
tree_after t (Order c) = tree_by t c

abbrev pub said_after : Option Grown → Entry → List ℕ
said_after t (Skip line) = []
said_after t (Order c) = said_by t c

-- the tree after these lines, from another on
abbrev pub tree_all : Option Grown → List Entry → Option Grown
tree_all t [] = t
tree_all t (e ∷ es) = tree_all (tree_after t e) es

abbrev pub said_all : Option Grown → List Entry → List ℕ
said_all t [] = []
said_all t (e ∷ es) = said_after t e ++ said_all (tree_after t e) es

-- the transcript of these lines
abbrev pub plain_transcript : List Entry → List ℕ
plain_transcript es = said_all None es
