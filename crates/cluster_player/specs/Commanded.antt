-- What a command makes of a cluster that is played.
use Rattle.std.specs.Prelude.{◌≡◌, ℕ, ◌+◌, true, List, [], ◌∷◌, length, drop, Some}
use Rattle.std.specs.FinMap.{get, insert}
use Rattle.tree_model.specs.Participants.{home_of}
use Rattle.scenario_text.specs.declared.command.Command.{Command}
use Rattle.scenario_text.specs.declared.command.Command.TheVariants as commands
use Rattle.scenario_text.specs.declared.line.Line.{Line}
use Rattle.scenario_text.specs.declared.line.Line.TheVariants as lines
use Rattle.target_turns.specs.Disks.{Calls}
use Rattle.target_turns.specs.Showing.{shows_log}
use Rattle.cluster_core.specs.declared.cluster.TreeAnswer.{TreeAnswer}
use Rattle.cluster_core.specs.declared.cluster.TreeAnswer.TheVariants as trees
use Rattle.cluster_core.specs.Cluster.{Cluster, target_at}
use Rattle.cluster_core.specs.Cored.{unmade, tree_answer}
use Rattle.cluster_core.specs.Founding.{AllFounded}
use Rattle.cluster_core.specs.Delivery.{Delivers, Settles}
use Rattle.cluster_core.specs.Commands.{sends, sends_again, drops, resends_all, Commits, crashed, crash_lines, Begins}
use Rattle.cluster_core.specs.Looks.{list_lines}
use Rattle.cluster_core.specs.Ends.{Ends}
use Rattle.cluster_player.specs.Played.{Playing}

-- the line for a tree, or for what is in its way
abbrev pub tree_line : TreeAnswer → Line
tree_line (trees.Tree tree) = lines.Tree tree
tree_line (trees.Busy number) = lines.TreeBusy number
tree_line (trees.NotServing target) = lines.TreeState target

-- it is about messages or targets
abbrev pub IsOrder : Command → Type 0
IsOrder (commands.Cluster n) = ⊥
IsOrder (commands.Send r) = ⊥
IsOrder (commands.Again n) = ⊥
IsOrder _ = Unit {0}

-- What such a command makes of a cluster, and the lines that come of it.
abbrev pub Orders : Calls → Cluster → Command → Cluster → List Line → Type 0
Orders calls c (commands.Deliver k) new ls = Delivers c k new ls
Orders calls c (commands.Drop k) new ls = (new ≡ drops c k) × (ls ≡ [])
Orders calls c commands.Settle new ls = Settles c new ls
Orders calls c commands.Resend new ls = (new ≡ resends_all c) × (ls ≡ [])
Orders calls c commands.List new ls = (new ≡ c) × (ls ≡ list_lines 1 c.sent)
Orders calls c (commands.Log t) new ls = (new ≡ c) × (ls ≡ shows_log (target_at c.targets t))
Orders calls c commands.Tree new ls = (new ≡ c) × (ls ≡ tree_line (tree_answer c.targets) ∷ [])
Orders calls c commands.End new ls = Ends c new ls
Orders calls c (commands.Commit t) new ls = Commits c t new ls
Orders calls c (commands.Crash t) new ls = (new ≡ crashed c t) × (ls ≡ crash_lines c t)
Orders calls c (commands.Restart t) new ls = Begins calls c t new ls
Orders calls c (commands.Fuse t after choice) new ls = calls.armed after choice (target_at c.targets t).disk × (new ≡ c) × (ls ≡ [])
-- The others make the cluster, or are about a request.
Orders calls c _ new ls = ⊥

-- What a command makes of what is played, and the lines that come of it.
abbrev pub Obeys : Calls → Playing → Command → Playing → List Line → Type 0
Obeys calls p (commands.Cluster n) new ls =
    (c : Cluster) × AllFounded (unmade n p.spare).cluster c ls × (new ≡ record p { count = Some n; cluster = c; spare = drop n p.spare })
Obeys calls p (commands.Send r) new ls =
    (home : ℕ) × (home_of (length p.cluster.targets) r.op ≡ Some home)
    × (new ≡ record p { messages = insert p.messages r.number (length p.cluster.sent + 1); cluster = sends p.cluster home r }) × (ls ≡ [])
Obeys calls p (commands.Again n) new ls = (k : ℕ) × (get p.messages n ≡ Some k) × (new ≡ record p { cluster = sends_again p.cluster k }) × (ls ≡ [])
Obeys calls p commands.End new ls = (c : Cluster) × Orders calls p.cluster commands.End c ls × (new ≡ record p { ended = true; cluster = c })
Obeys calls p command new ls = (c : Cluster) × Orders calls p.cluster command c ls × (new ≡ record p { cluster = c })
