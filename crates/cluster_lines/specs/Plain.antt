-- The commands and lines of a transcript of several targets as those of the plain machine.
use Rattle.std.specs.Prelude.{ℕ, zero, suc, List, [], ◌∷◌, ◌++◌}
use Rattle.scenario_text.specs.declared.logged.Logged.{Logged}
use Rattle.scenario_text.specs.declared.line.Standing.{Standing}
use Rattle.scenario_text.specs.declared.line.Standing.TheVariants as standings
use Rattle.scenario_text.specs.declared.line.Line.{Line}
use Rattle.scenario_text.specs.declared.line.Line.TheVariants as lines
use Rattle.scenario_text.specs.declared.command.Command.{Command}
use Rattle.scenario_text.specs.declared.command.Command.TheVariants as commands
use Rattle.scenario_text.specs.Spelling.{Entry, Skip, Order}
use Rattle.scenario_text.specs.Machine.{Group}
use Rattle.update_protocol.specs.Machine as plain
use Rattle.update_protocol.specs.Groups as plain_commands

abbrev pub standing_of : Standing → plain.Standing
standing_of standings.Serving = plain.Serving
standing_of standings.Opened = plain.Opened
standing_of standings.Down = plain.Down

abbrev pub listed_of : Logged → plain.Listed
listed_of r = record { index = r.index; epoch = r.epoch; master = r.master; batch = r.batch; number = r.number; on = r.on }

-- the records whose lines come first
abbrev pub first_records : List Line → List plain.Listed
first_records (lines.LogEntry r ∷ more) = listed_of r ∷ first_records more
first_records _ = []

-- A line of the text is one of the machine's, before these others; the lines of a log's records are part of its own.
abbrev pub line_of_plain : Line → List Line → List plain.Line
line_of_plain (lines.Accept n reply on) more = plain.Accept n reply on ∷ []
line_of_plain (lines.Reply n reply) more = plain.Replies n reply ∷ []
line_of_plain (lines.Done n t) more = plain.Done n t ∷ []
line_of_plain (lines.Busy n m) more = plain.Busy n m ∷ []
line_of_plain (lines.Full n t load need) more = plain.Full n t load need ∷ []
line_of_plain (lines.Shared t n m) more = plain.Shared t n m ∷ []
line_of_plain (lines.Ignored k) more = plain.Ignored k ∷ []
line_of_plain lines.Unsettled more = plain.Unsettled ∷ []
line_of_plain (lines.Stale n last) more = plain.Stale n last ∷ []
line_of_plain (lines.Recovering n t) more = plain.Recovering n t ∷ []
line_of_plain (lines.Stable t ns) more = plain.Stable t ns ∷ []
line_of_plain (lines.Down t) more = plain.Stopped t ∷ []
line_of_plain (lines.Up t transno ns) more = plain.Up t transno ns ∷ []
line_of_plain (lines.DamagedGates t gates) more = []
line_of_plain (lines.DamagedImage t place) more = []
line_of_plain (lines.State t standing) more = plain.Stands t (standing_of standing) ∷ []
line_of_plain (lines.Tree grown) more = plain.Shows grown.tree ∷ []
line_of_plain (lines.TreeState t) more = plain.Tree_stands t ∷ []
line_of_plain (lines.TreeBusy n) more = plain.Tree_busy n ∷ []
line_of_plain (lines.Log t live) more = plain.Log t (first_records more) ∷ []
line_of_plain (lines.LogEntry r) more = []
line_of_plain (lines.Message k kind n from to) more = plain.Undelivered k n ∷ []
line_of_plain lines.EndClean more = plain.End_clean ∷ []
line_of_plain (lines.EndUnclean t) more = plain.End_target t ∷ []
line_of_plain (lines.EndUncleanRequest n) more = plain.End_request n ∷ []

abbrev pub plain_lines : List Line → List plain.Line
plain_lines [] = []
plain_lines (l ∷ more) = line_of_plain l more ++ plain_lines more

-- `log` counts the records whose lines come next, and such lines stand nowhere else; no disk is damaged
abbrev pub ArePlain : ℕ → List Line → Type 0
ArePlain zero [] = Unit {0}
ArePlain (suc k) [] = ⊥
ArePlain (suc k) (lines.LogEntry r ∷ more) = ArePlain k more
ArePlain (suc k) (l ∷ more) = ⊥
ArePlain zero (lines.LogEntry r ∷ more) = ⊥
ArePlain zero (lines.DamagedGates t gates ∷ more) = ⊥
ArePlain zero (lines.DamagedImage t place ∷ more) = ⊥
ArePlain zero (lines.Log t live ∷ more) = ArePlain live more
ArePlain zero (l ∷ more) = ArePlain zero more

abbrev pub plain_command : Command → plain_commands.Command
plain_command (commands.Cluster targets) = plain_commands.Cluster targets
plain_command (commands.Send r) = plain_commands.Send r
plain_command (commands.Again n) = plain_commands.Again n
plain_command (commands.Deliver k) = plain_commands.Deliver k
plain_command (commands.Drop k) = plain_commands.Drop k
plain_command commands.Settle = plain_commands.Settle
plain_command commands.Resend = plain_commands.Resend
plain_command commands.List = plain_commands.Messages_shown
plain_command (commands.Log t) = plain_commands.Log_shown t
plain_command commands.Tree = plain_commands.Tree_shown
plain_command commands.End = plain_commands.End
plain_command (commands.Commit t) = plain_commands.Commit t
plain_command (commands.Crash t) = plain_commands.Crash t
plain_command (commands.Restart t) = plain_commands.Restart t
plain_command (commands.Fuse t after choice) = plain_commands.Fuse t after choice

-- the commands with their lines; a line that is skipped is none
abbrev pub plain_group : Entry → List Line → List (plain_commands.Command × List plain.Line)
plain_group (Skip line) ls = []
plain_group (Order c) ls = (plain_command c, plain_lines ls) ∷ []

abbrev pub plain_groups : List Group → List (plain_commands.Command × List plain.Line)
plain_groups [] = []
plain_groups (g ∷ gs) = plain_group g.entry g.lines ++ plain_groups gs
