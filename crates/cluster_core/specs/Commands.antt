-- What the commands that are about one target, or that only send, make of a cluster.
use Rattle.std.specs.Prelude.{◌≡◌, ℕ, ◌+◌, List, [], ◌∷◌, ◌++◌, map, slice_set}
use Rattle.std.specs.List.{flat_map}
use Rattle.tree_model.specs.declared.op.Request.{Request}
use Rattle.tree_model.specs.OpText.{op_text}
use Rattle.update_record.specs.declared.message.Message.{Message}
use Rattle.update_record.specs.declared.message.MessageKind.TheVariants as kind
use Rattle.cluster_mail.specs.Mail.{fresh, message_of, mark_dropped}
use Rattle.scenario_text.specs.declared.line.Line.{Line}
use Rattle.target_turns.specs.Target.{Target}
use Rattle.target_turns.specs.Disks.{Calls}
use Rattle.target_turns.specs.Commanded.{commits_by, resends}
use Rattle.target_turns.specs.Founding.{crashes, Restarts}
use Rattle.cluster_core.specs.Cluster.{Cluster, Turns, after_turn, target_at, turn_lines}

-- ---- messages

-- what a client sends to the home of its request
abbrev pub request_message : ℕ → Request → Message
request_message home r = record { kind = kind.Request; epoch = 0; from = 256 + r.client; to = home; number = r.number; attempt = 0; ask = 0; value = 0; body = op_text r.op }

abbrev pub with_message : Cluster → Message → Cluster
with_message c m = record c { sent = c.sent ++ fresh m ∷ [] }

abbrev pub sends : Cluster → ℕ → Request → Cluster
sends c home r = with_message c (request_message home r)

-- the message of this number comes once more, under a number of its own
abbrev pub sends_again : Cluster → ℕ → Cluster
sends_again c k = with_message c (message_of c.sent k)

abbrev pub drops : Cluster → ℕ → Cluster
drops c k = record c { sent = mark_dropped c.sent k }

-- a target that serves sends once more what wasn't answered
abbrev pub resends_of : Cluster → ℕ → Cluster
resends_of c i = record c { sent = c.sent ++ map fresh (resends (target_at c.targets i)) }

-- each target that serves sends once more what wasn't answered, by the targets' numbers
abbrev pub resends_all : Cluster → Cluster
resends_all c = record c { sent = c.sent ++ map fresh (flat_map resends c.targets) }

-- ---- one target

-- it commits, or says what it does
pub record Commits (c : Cluster) (i : ℕ) (new : Cluster) (ls : List Line) : Type 0 where
  pub turn : Turns c i (commits_by (target_at c.targets i)) new
  pub lines_are : ls ≡ turn_lines new i (commits_by (target_at c.targets i))

-- it is stopped
abbrev pub crashed : Cluster → ℕ → Cluster
crashed c i = after_turn c i (crashes (target_at c.targets i))

abbrev pub crash_lines : Cluster → ℕ → List Line
crash_lines c i = (crashes (target_at c.targets i)).lines

-- one target becomes another, and nothing else changes
abbrev pub with_target : Cluster → ℕ → Target → Cluster
with_target c i t = record c { targets = slice_set c.targets i t }

-- it is started from its disk
pub record Begins (calls : Calls) (c : Cluster) (i : ℕ) (new : Cluster) (ls : List Line) : Type 0 where
  pub line : Line
  pub does : Restarts calls (target_at c.targets i) line (target_at new.targets i)
  pub after : new ≡ with_target c i (target_at new.targets i)
  pub lines_are : ls ≡ line ∷ []
