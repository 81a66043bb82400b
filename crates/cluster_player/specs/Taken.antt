-- Which lines may be played, and what is written of them.
use Rattle.std.specs.Prelude.{◌≡◌, ◌≢◌, ◌≤◌, ℕ, Bool, true, false, List, [], length}
use Rattle.cluster_mail.specs.Mail.{Sent, size_of}
use Rattle.scenario_text.specs.Spelling.{Entry, Skip, Order, IsCommand, IsSkipped, line_of}
use Rattle.scenario_text.specs.Machine.{MayCome}
use Rattle.scenario_text.specs.LineText.{texts}
use Rattle.scenario_text.specs.declared.command.Command.{Command}
use Rattle.scenario_text.specs.declared.command.Command.TheVariants as commands
use Rattle.scenario_text.specs.declared.line.Line.{Line}
use Rattle.target_turns.specs.Disks.{Calls}
use Rattle.line_player.specs.Played.{Rules, rules_of}
use Rattle.cluster_player.specs.Requests.{was_sent}
use Rattle.cluster_player.specs.Played.{Playing, disks_in}
use Rattle.cluster_player.specs.Disks.{AreKept}
use Rattle.cluster_player.specs.Commanded.{Obeys}

-- the message that a command names was sent
abbrev pub NamesSent : List Sent → Command → Type 0
NamesSent sent (commands.Deliver k) = (1 ≤ k) × (k ≤ length sent)
NamesSent sent (commands.Drop k) = (1 ≤ k) × (k ≤ length sent)
NamesSent sent _ = Unit {0}

-- the messages leave room for a command: they have 1 GiB at most
abbrev pub HaveRoom : List Sent → Type 0
HaveRoom sent = size_of sent ≤ 1073741824

-- a command may come
pub record MayFollow (p : Playing) (c : Command) : Type 0 where
  pub comes : MayCome p.count p.ended (was_sent p.messages) c
  pub names : NamesSent p.cluster.sent c
  pub room : HaveRoom p.cluster.sent

-- what may stand on the next line; nothing may after `end`
abbrev pub Stands : Playing → Entry → Type 0
Stands p (Skip line) = IsSkipped line × (p.ended ≡ false)
Stands p (Order c) = IsCommand p.count c × MayFollow p c

-- nothing that may stand on the next line is spelled so
abbrev pub IsBad : Playing → List ℕ → Type 0
IsBad p line = (e : Entry) → Stands p e → line ≢ line_of e

-- what comes of what stands on a line
abbrev pub Does : Calls → Playing → Entry → Playing → List Line → Type 0
Does calls p (Skip line) new ls = (new ≡ p) × (ls ≡ [])
Does calls p (Order c) new ls = Obeys calls p c new ls

-- The line stands there, this comes of it, and this is its text. No line before it wanted memory.
abbrev pub Takes : Calls → Playing → Playing → List ℕ → List ℕ → Type 0
Takes calls old new line text =
    (old.spent ≡ false) × ((e : Entry) × (ls : List Line) × Stands old e × (line ≡ line_of e) × Does calls old e new ls × (text ≡ texts ls))

-- ---- the rules of a player

abbrev pub player_takes : Calls → Playing → List ℕ → Playing → List ℕ → Type 0
player_takes calls old line new text = Takes calls old new line text × AreKept (disks_in old) (disks_in new)

-- after want of memory every further line wants it too
abbrev pub player_leaves : Playing → Playing → Type 0
player_leaves old new = (new.spent ≡ true) × AreKept (disks_in old) (disks_in new)

abbrev pub player_ended : Playing → Bool
player_ended p = p.ended

abbrev pub player_rules : Calls → Playing → Playing → Rules
player_rules calls old new = rules_of (player_takes calls) IsBad player_leaves player_ended old new
