-- The turn of a target: what one message makes, a function of the target, of the message and what it says, and of
-- what the disk did.
use Rattle.std.specs.Prelude.{ℕ, ◌-◌, Bool, true, false, not, ◌==◌, if◌then◌else◌, List, [], ◌∷◌, get_or, Option, Some, None}
use Rattle.tree_model.specs.declared.op.Op.{Op}
use Rattle.tree_model.specs.declared.op.Request.{Request}
use Rattle.update_record.specs.declared.message.Attempt.{Attempt}
use Rattle.update_record.specs.declared.message.Message.{Message}
use Rattle.update_record.specs.declared.message.MessageKind.{MessageKind}
use Rattle.update_record.specs.declared.message.MessageKind.TheVariants as kind
use Rattle.scenario_text.specs.declared.line.Line.{Line}
use Rattle.scenario_text.specs.declared.line.Line.TheVariants as lines
use Rattle.reply_cache.specs.declared.seats.Judgement.{Judgement}
use Rattle.reply_cache.specs.declared.seats.Judgement.TheVariants as judgement
use Rattle.reply_cache.specs.Seats.{judged}
use Rattle.plan_record.specs.Recorded.{reads}
use Rattle.target_state.specs.Marking.{cancelled}
use Rattle.update_coordinator.specs.declared.words.Event.{Event}
use Rattle.update_coordinator.specs.declared.words.Event.TheVariants as events
use Rattle.update_coordinator.specs.Marks.{is_awaited, is_owed}
use Rattle.cluster_mail.specs.declared.content.Content.{Content}
use Rattle.cluster_mail.specs.declared.content.Content.TheVariants as content
use Rattle.target_turns.specs.Target.{Target, Fate, Turned, quiet, says, serves}
use Rattle.target_turns.specs.Marks.{note}
use Rattle.target_turns.specs.Helping.{ignores, on_hold, on_sync, on_execute, on_release}
use Rattle.target_turns.specs.Home.{begins, hears, hears_awaited}

-- ---- a client's request at its home

abbrev pub taken_up_as : Target → Request → Fate → Option Attempt → Turned
taken_up_as t r f (Some h) = says t (lines.Busy r.number h.number ∷ [])
taken_up_as t r f None = begins t r f

abbrev pub takes_up : Target → Request → Fate → Turned
takes_up t r f = taken_up_as t r f t.node.holder

abbrev pub judged_as : Target → Request → Fate → Judgement → Turned
judged_as t r f (judgement.Repeat v) = says t (lines.Reply r.number v ∷ [])
judged_as t r f (judgement.Stale last) = says t (lines.Stale r.number last ∷ [])
judged_as t r f judgement.New = takes_up t r f

abbrev pub judged_for : Target → Request → Fate → Turned
judged_for t r f = judged_as t r f (judged (get_or t.node.seats r.client None) r.number)

-- of a read no seat is asked
abbrev pub asked_for : Target → Request → Fate → Turned
asked_for t r f = if reads r.op then takes_up t r f else judged_for t r f

abbrev pub request_of : Message → Op → Request
request_of m op = record { number = m.number; client = m.from - 256; op = op }

-- ---- answers at the home

abbrev pub on_answer : ℕ → Target → Message → Event → Fate → Turned
on_answer k t m e f = if is_awaited t.home m.from m.attempt m.ask t.home.current then hears_awaited t m.number e f else ignores k t

abbrev pub on_done : ℕ → Target → Message → Event → Turned
on_done k t m e = if is_owed t.home.flights m.from m.attempt then quiet (hears t e).target else ignores k t

-- ---- by kind

abbrev pub with_op : Target → Message → Fate → Content → Turned
with_op t m f (content.Asks op) = asked_for t (request_of m op) f
with_op t m f _ = quiet t

abbrev pub with_question : ℕ → Target → Message → Content → Turned
with_question k t m (content.Questions us) = on_hold k t m us
with_question k t m _ = ignores k t

abbrev pub with_facts : ℕ → Target → Message → Fate → Content → Turned
with_facts k t m f (content.Tells facts) = on_answer k t m (events.Fact facts) f
with_facts k t m f _ = ignores k t

abbrev pub with_record : ℕ → Target → Message → Content → Turned
with_record k t m (content.Carries r) = on_execute k t m r
with_record k t m _ = ignores k t

-- a message of another target, in the epoch of this one
abbrev pub turned_now : ℕ → Target → Message → Content → Fate → MessageKind → Turned
turned_now k t m c f kind.Request = with_op t m f c
turned_now k t m c f kind.Hold = with_question k t m c
turned_now k t m c f kind.Held = with_facts k t m f c
turned_now k t m c f kind.HoldBusy = on_answer k t m (events.Busy m.value) f
turned_now k t m c f kind.Sync = on_sync k t m f
turned_now k t m c f kind.Synced = on_answer k t m events.Synced f
turned_now k t m c f kind.Execute = with_record k t m c
turned_now k t m c f kind.Executed = on_done k t m (events.Executed m.from m.attempt)
turned_now k t m c f kind.Release = on_release k t m
turned_now k t m c f kind.Released = on_done k t m (events.Released m.from m.attempt)
turned_now k t m c f kind.Stable = quiet (note t m.from m.value)
turned_now k t m c f kind.Cancel = quiet (record t { node = cancelled t.node m.from m.value })

abbrev pub is_request : MessageKind → Bool
is_request kind.Request = true
is_request _ = false

-- of one that doesn't serve a client is told, and any other message is ignored
abbrev pub turned_away : ℕ → Target → Message → Turned
turned_away k t m = if is_request m.kind then says t (lines.Recovering m.number m.to ∷ []) else ignores k t

-- a message that isn't of the target's epoch is ignored; a request is of none
abbrev pub turned_up : ℕ → Target → Message → Content → Fate → Turned
turned_up k t m c f = if is_request m.kind then turned_now k t m c f m.kind else (if m.epoch == t.node.epoch then turned_now k t m c f m.kind else ignores k t)

-- the message has this number
abbrev pub turned : ℕ → Target → Message → Content → Fate → Turned
turned k t m c f = if serves t then turned_up k t m c f else turned_away k t m

-- ---- a bounce: what an attempt asked of a target that doesn't serve

abbrev pub asks : MessageKind → Bool
asks kind.Hold = true
asks kind.Sync = true
asks _ = false

-- whether the attempt of a home waits for what this message asks
abbrev pub awaits : Target → Message → Bool
awaits t m = if serves t then (if m.epoch == t.node.epoch then is_awaited t.home m.to m.attempt m.ask t.home.current else false) else false

abbrev pub bounced : Target → Message → Fate → Turned
bounced t m f = hears_awaited t m.number (events.Down m.to) f
