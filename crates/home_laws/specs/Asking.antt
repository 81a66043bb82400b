-- How the asks of an attempt are numbered, and how far a home's own turn comes without a decision.
use Rattle.std.specs.Prelude.{◌≡◌, ◌≢◌, ◌<◌, ◌≤◌, ◌⊎◌, ℕ, Bool, true, false, get_or, Some}
use Rattle.update_record.specs.declared.message.Attempt.{Attempt}
use Rattle.update_record.specs.declared.message.Message.{Message as Mail}
use Rattle.update_record.specs.declared.message.MessageKind.{MessageKind}
use Rattle.update_record.specs.declared.message.MessageKind.TheVariants as kind
use Rattle.cluster_mail.specs.Mail.{Sent}
use Rattle.plan_base.specs.Planners.{FitsNeed}
use Rattle.target_state.specs.State.{TargetState}
use Rattle.update_coordinator.specs.declared.words.Action.{Action}
use Rattle.update_coordinator.specs.declared.words.Action.TheVariants as actions
use Rattle.update_coordinator.specs.declared.words.Event.{Event}
use Rattle.update_coordinator.specs.declared.words.Event.TheVariants as events
use Rattle.update_coordinator.specs.declared.words.Going.{Going}
use Rattle.target_turns.specs.Target.{Target, Turned, serves}
use Rattle.update_protocol.specs.Facts.{place}
use Rattle.update_protocol.specs.Lists.{IsIn}
use Rattle.turn_laws.specs.Values.{Cluster, target_at}

-- ---- numbers

-- an order of an attempt that is numbered as an ask
abbrev pub is_ask : MessageKind → Bool
is_ask kind.Hold = true
is_ask kind.Sync = true
is_ask _ = false

-- an order of an attempt
abbrev pub is_order : MessageKind → Bool
is_order kind.Hold = true
is_order kind.Sync = true
is_order kind.Execute = true
is_order kind.Release = true
is_order _ = false

-- the answer to an ask
abbrev pub is_told : MessageKind → Bool
is_told kind.Held = true
is_told kind.HoldBusy = true
is_told kind.Synced = true
is_told _ = false

-- The number was given: by an earlier attempt of this home, or by its last one, for the request of that one.
abbrev pub WasGiven : Target → Mail → Type 0
WasGiven t m = (m.attempt < t.home.attempts) ⊎ ((m.attempt ≡ t.home.attempts) × (m.ask ≤ t.home.asks) × ((g : Going) → t.home.current ≡ Some g → m.number ≡ g.course.request.number))

-- What a target with this number noted of attempts of its own is of no more than it began: the attempt that holds it,
-- and the last one that ended.
pub record NotesBegun (t attempts : ℕ) (s : TargetState) : Type 0 where
  pub held : (by : Attempt) → s.holder ≡ Some by → by.master ≡ t → by.attempt ≤ attempts
  pub ended : get_or s.ended t 0 ≤ attempts

-- Each home that serves gave the numbers of the asks that were sent in its epoch, and of their answers; and it began
-- each attempt that its orders and its own notes speak of.
pub record AreNumbered (c : Cluster) : Type 0 where
  pub orders : (t : ℕ) → serves (target_at c.targets t) ≡ true → (m : Sent) → IsIn m c.sent → m.message.epoch ≡ (target_at c.targets t).node.epoch → m.message.from ≡ t → is_ask m.message.kind ≡ true → WasGiven (target_at c.targets t) m.message
  pub answers : (t : ℕ) → serves (target_at c.targets t) ≡ true → (m : Sent) → IsIn m c.sent → m.message.epoch ≡ (target_at c.targets t).node.epoch → m.message.to ≡ t → is_told m.message.kind ≡ true → WasGiven (target_at c.targets t) m.message
  pub begun : (t : ℕ) → serves (target_at c.targets t) ≡ true → (m : Sent) → IsIn m c.sent → m.message.epoch ≡ (target_at c.targets t).node.epoch → m.message.from ≡ t → is_order m.message.kind ≡ true → m.message.attempt ≤ (target_at c.targets t).home.attempts
  pub notes : (t : ℕ) → serves (target_at c.targets t) ≡ true → NotesBegun t (target_at c.targets t).home.attempts (target_at c.targets t).node

-- ---- what a home hears, and does then

-- an answer to the attempt that is under way, and none that an ended one was owed
abbrev pub is_of_attempt : Event → Bool
is_of_attempt (events.Executed t attempt) = false
is_of_attempt (events.Released t attempt) = false
is_of_attempt _ = true

-- another target is asked to be held, an object at its place or none; or the attempt is over without a record
abbrev pub AsksOrEnds : ℕ → ℕ → Action → Type 0
AsksOrEnds targets home (actions.Ask n) = FitsNeed n × (place targets n.ask.fid ≡ n.target) × (n.target ≢ home)
AsksOrEnds targets home (actions.HoldOnly to) = to ≢ home
AsksOrEnds targets home (actions.Sync to writer) = ⊥
AsksOrEnds targets home (actions.Accept r) = ⊥
AsksOrEnds targets home _ = Unit {0}

-- ---- how numbers are given

-- the home has gone on: its numbers rise, and an attempt that gives more of them is of the same request
abbrev pub GoesOnFrom : Target → Target → Type 0
GoesOnFrom t v =
    (t.home.attempts < v.home.attempts)
    ⊎ ((t.home.attempts ≡ v.home.attempts) × (t.home.asks ≤ v.home.asks) × ((h : Going) → v.home.current ≡ Some h → (g : Going) × (t.home.current ≡ Some g) × (h.course.request.number ≡ g.course.request.number)))

-- the order of an ask that was sent has its answer in this message
pub record IsOrder (m x : Mail) : Type 0 where
  pub asks : is_ask m.kind ≡ true
  pub epoch : m.epoch ≡ x.epoch
  pub home : m.from ≡ x.to
  pub attempt : m.attempt ≡ x.attempt
  pub ask : m.ask ≡ x.ask
  pub number : m.number ≡ x.number

-- what a turn of this target sends, which is then so: an ask has a number that it gave, and an answer that of its order
pub record IsNumbered (c : Cluster) (to : ℕ) (v : Target) (x : Mail) : Type 0 where
  pub own : is_ask x.kind ≡ true → (x.from ≡ to) × WasGiven v x
  pub told : is_told x.kind ≡ true → (m : Sent) × IsIn m c.sent × IsOrder m.message x
  pub begun : is_order x.kind ≡ true → (x.from ≡ to) × (x.attempt ≤ v.home.attempts)

-- What a turn of this target gives, if the target serves after it, and what it sends.
pub record GivesNumbers (c : Cluster) (to : ℕ) (u : Turned) : Type 0 where
  pub same : serves u.target ≡ true → u.target.node.epoch ≡ (target_at c.targets to).node.epoch
  pub next : serves u.target ≡ true → GoesOnFrom (target_at c.targets to) u.target
  pub notes : serves u.target ≡ true → NotesBegun to u.target.home.attempts u.target.node
  pub sent : (x : Mail) → IsIn x u.sent → IsNumbered c to u.target x
