-- The one text of each line of a transcript.
use Rattle.std.specs.Prelude.{ℕ, zero, suc, List, [], ◌∷◌, ◌++◌, codes, if◌then◌else◌}
use Rattle.std.specs.List.{flat_map}
use Rattle.std.specs.Fmt.{decimal}
use Rattle.fid_space.specs.Targets.{is_member}
use Rattle.tree_model.specs.TreeText.{tree_text}
use Rattle.tree_model.specs.ReplyText.{reply_text}
use Rattle.tree_model.specs.declared.reply.Reply.{Reply}
use Rattle.scenario_text.specs.declared.line.Standing.{Standing}
use Rattle.scenario_text.specs.declared.line.Standing.TheVariants.{Serving, Opened, Down}
use Rattle.scenario_text.specs.declared.message.Kind.{Kind}
use Rattle.scenario_text.specs.declared.message.Kind.TheVariants as kinds
use Rattle.scenario_text.specs.declared.message.Sender.{Sender}
use Rattle.scenario_text.specs.declared.message.Sender.TheVariants as senders
use Rattle.scenario_text.specs.declared.logged.Logged.{Logged}
use Rattle.scenario_text.specs.declared.line.Line.{Line}
use Rattle.scenario_text.specs.declared.line.Line.TheVariants as lines

-- the members of a set below a number, ascending
unfoldable pub members : ℕ → ℕ → List ℕ
members set zero = []
members set (suc t) = members set t ++ (if is_member set t then t ∷ [] else [])

abbrev pub after_comma : ℕ → List ℕ
after_comma n = codes "," ++ decimal n

-- numbers with commas between them, or a dash for none
abbrev pub list_text : List ℕ → List ℕ
list_text [] = codes "-"
list_text (n ∷ ns) = decimal n ++ flat_map after_comma ns

abbrev pub targets_text : ℕ → List ℕ
targets_text set = list_text (members set 16)

abbrev pub accept_text : ℕ → Reply → ℕ → List ℕ
accept_text number reply on =
    codes "accept " ++ (decimal number ++ (codes " " ++ (reply_text reply ++ (codes " on " ++ (targets_text on ++ codes "\n")))))

abbrev pub reply_line_text : ℕ → Reply → List ℕ
reply_line_text number reply = codes "reply " ++ (decimal number ++ (codes " " ++ (reply_text reply ++ codes "\n")))

-- a word and a number
abbrev pub one_text : List ℕ → ℕ → List ℕ
one_text word n = word ++ (decimal n ++ codes "\n")

-- a word, a number, another word and another number
abbrev pub two_text : List ℕ → ℕ → List ℕ → ℕ → List ℕ
two_text word n other m = word ++ (decimal n ++ (other ++ (decimal m ++ codes "\n")))

abbrev pub stable_text : ℕ → List ℕ → List ℕ
stable_text target numbers = codes "stable " ++ (decimal target ++ (codes " " ++ (list_text numbers ++ codes "\n")))

abbrev pub up_text : ℕ → ℕ → List ℕ → List ℕ
up_text target transno numbers =
    codes "up " ++ (decimal target ++ (codes " transno " ++ (decimal transno ++ (codes " holds " ++ (list_text numbers ++ codes "\n")))))

abbrev pub full_text : ℕ → ℕ → ℕ → ℕ → List ℕ
full_text number target load need =
    codes "full " ++ (decimal number ++ (codes " target " ++ (decimal target ++ (codes " load " ++ (decimal load ++ (codes " need " ++ (decimal need ++ codes "\n")))))))

abbrev pub shared_text : ℕ → ℕ → ℕ → List ℕ
shared_text target number writer = codes "shared " ++ (decimal target ++ (codes " " ++ (decimal number ++ (codes " " ++ (decimal writer ++ codes "\n")))))

-- a live record of an update log: its index; the epoch, master and batch of its operation; the number of the request
abbrev pub logged_head : Logged → List ℕ
logged_head r =
    codes "index " ++ (decimal r.index ++ (codes " id " ++ (decimal r.epoch ++ (codes "." ++ (decimal r.master ++ (codes "." ++ (decimal r.batch ++ (codes " number " ++ (decimal r.number ++ codes " on ")))))))))

-- and the targets that it is on
abbrev pub logged_text : Logged → List ℕ
logged_text r = logged_head r ++ (targets_text r.on ++ codes "\n")

abbrev pub kind_word : Kind → List ℕ
kind_word kinds.Request = codes "request"
kind_word kinds.Hold = codes "hold"
kind_word kinds.Held = codes "held"
kind_word kinds.HoldBusy = codes "holdbusy"
kind_word kinds.Sync = codes "sync"
kind_word kinds.Synced = codes "synced"
kind_word kinds.Execute = codes "execute"
kind_word kinds.Executed = codes "executed"
kind_word kinds.Release = codes "release"
kind_word kinds.Released = codes "released"
kind_word kinds.Stable = codes "stable"
kind_word kinds.Cancel = codes "cancel"

abbrev pub sender_word : Sender → List ℕ
sender_word (senders.Target target) = decimal target
sender_word (senders.Client client) = codes "c" ++ decimal client

-- a message: its number and kind, its request, its sender, and the target that it is for
abbrev pub message_text : ℕ → Kind → ℕ → Sender → ℕ → List ℕ
message_text number kind request from to =
    codes "msg " ++ (decimal number ++ (codes " " ++ (kind_word kind ++ (codes " " ++ (decimal request
    ++ (codes " " ++ (sender_word from ++ (codes " " ++ (decimal to ++ codes "\n")))))))))

abbrev pub standing_word : Standing → List ℕ
standing_word Serving = codes "serving"
standing_word Opened = codes "opened"
standing_word Down = codes "down"

abbrev pub state_text : ℕ → Standing → List ℕ
state_text target standing = codes "state " ++ (decimal target ++ (codes " " ++ (standing_word standing ++ codes "\n")))

abbrev pub line_text : Line → List ℕ
line_text (lines.Accept number reply on) = accept_text number reply on
line_text (lines.Reply number reply) = reply_line_text number reply
line_text (lines.Done number target) = two_text (codes "done ") number (codes " at ") target
line_text (lines.Busy number holder) = two_text (codes "busy ") number (codes " holder ") holder
line_text (lines.Full number target load need) = full_text number target load need
line_text (lines.Shared target number writer) = shared_text target number writer
line_text (lines.Ignored message) = one_text (codes "ignored ") message
line_text lines.Unsettled = codes "unsettled\n"
line_text (lines.Stale number last) = two_text (codes "stale ") number (codes " last ") last
line_text (lines.Recovering number target) = two_text (codes "recovering ") number (codes " target ") target
line_text (lines.Stable target numbers) = stable_text target numbers
line_text (lines.Down target) = one_text (codes "down ") target
line_text (lines.Up target transno numbers) = up_text target transno numbers
line_text (lines.DamagedGates target gates) = two_text (codes "damaged ") target (codes " gates ") gates
line_text (lines.DamagedImage target place) = two_text (codes "damaged ") target (codes " image ") place
line_text (lines.State target standing) = state_text target standing
line_text (lines.Tree t) = tree_text t.tree
line_text (lines.TreeState target) = one_text (codes "tree state ") target
line_text (lines.TreeBusy number) = one_text (codes "tree busy ") number
line_text (lines.Log target live) = two_text (codes "log ") target (codes " live ") live
line_text (lines.LogEntry entry) = logged_text entry
line_text (lines.Message number kind request from to) = message_text number kind request from to
line_text lines.EndClean = codes "end clean\n"
line_text (lines.EndUnclean target) = one_text (codes "end unclean target ") target
line_text (lines.EndUncleanRequest number) = one_text (codes "end unclean request ") number

-- the text of several lines
abbrev pub texts : List Line → List ℕ
texts ls = flat_map line_text ls
