-- What an accepted operation rests on, for the proof of the cluster.
use Rattle.std.specs.Prelude.{◌≡◌, ◌⊎◌, ◌<◌, ◌+◌, ◌==◌, ◌&&◌, ◌||◌, not, ℕ, Bool, true, false, ◌++◌, List, [], ◌∷◌, length, Option, Some, None}
use Rattle.std.specs.List.{AllByRecursion}
use Rattle.fid_space.specs.Targets.{is_member, joined, minus, covers}
use Rattle.out_update.specs.declared.update.Update.{Update}
use Rattle.commit_sharing.specs.declared.sharing.Seen.{Seen}
use Rattle.striped_dir.specs.declared.plan.Decision.{Decision}
use Rattle.update_record.specs.declared.operation.Record.{Record}
use Rattle.update_coordinator.specs.declared.words.Held.{Held}
use Rattle.update_coordinator.specs.declared.words.Course.{Course}
use Rattle.update_coordinator.specs.declared.words.Action.{Action}
use Rattle.update_coordinator.specs.declared.words.Action.TheVariants as actions
use Rattle.update_coordinator.specs.declared.words.Event.{Event}
use Rattle.update_coordinator.specs.declared.words.Event.TheVariants as events
use Rattle.update_coordinator.specs.declared.words.Going.{Going}
use Rattle.update_coordinator.specs.declared.words.Waits.{Waits}
use Rattle.update_coordinator.specs.declared.words.Waits.TheVariants as waits
use Rattle.striped_dir.specs.declared.plan.Step.TheVariants as steps
use Rattle.plan_base.specs.Planners.{step_after}
use Rattle.update_coordinator.specs.Coordinating.{Coordinating}
use Rattle.update_coordinator.specs.Rules.{all_targets, is_held, settles, record_of, accepts, full, room_for, stepped, looked, told, first_result, heard, resting, with_flight, alone}
use Rattle.update_coordinator.specs.Marks.{is_stable}

-- the writer that was told has no target fewer than the operation
abbrev pub Covered : ℕ → Option (ℕ × ℕ) → Type 0
Covered on None = Unit {0}
Covered on (Some writer) = covers writer.1 on ≡ true

-- each writer that was told at this target covers the operation
abbrev pub AllCovered : List Seen → ℕ → ℕ → Type 0
AllCovered seen on t = AllByRecursion (λ (s : Seen). (s.target == t) ≡ true → Covered on s.writer) seen

-- what an accept rests on
pub record IsDue (c : Coordinating) (k : Course) (d : Decision) (synced : ℕ) (r : Record) : Type 0 where
  pub made : r ≡ record_of c k d
  pub held : AllByRecursion (λ (p : ℕ × List Update). is_held k.held p.0 ≡ true) d.parts
  pub room : full (room_for k.request.op) k.held d.parts ≡ None
  pub commits : AllByRecursion (λ (t : ℕ). (is_member synced t ≡ true) ⊎ AllCovered k.seen d.on t) all_targets
  pub stamp : AllByRecursion (λ (h : Held). h.clock < r.stamp) k.held
  pub left : settles c k d synced ≡ accepts c k d

-- where the course, the decision and the commits of an accept come from: what waited, and what was heard
abbrev pub IsSource : Coordinating → Going → Event → Waits → Course → Decision → ℕ → Type 0
IsSource c g (events.Fact f) (waits.Look n) k d synced = (k ≡ stepped (looked c.master g.course n f) (first_result f)) × (step_after g.course.planner (first_result f) ≡ steps.Decided d) × (synced ≡ 0)
IsSource c g (events.Fact f) (waits.Hold e t) k d synced = (k ≡ told c.master g.course t f) × (d ≡ e) × (synced ≡ 0)
IsSource c g events.Synced (waits.Sync e s t writer) k d synced = (k ≡ g.course) × (d ≡ e) × (synced ≡ joined s t)
IsSource c g _ _ k d synced = ⊥

-- an accept: the attempt was under way, and what it rests on; the attempt is over, and its number stays
pub record IsAccepted (c : Coordinating) (e : Event) (r : Record) : Type 0 where
  pub going : Going
  pub is_current : c.current ≡ Some going
  pub course : Course
  pub decision : Decision
  pub synced : ℕ
  pub source : IsSource c going e going.waits course decision synced
  pub due : IsDue (resting c) course decision synced r
  pub left : heard c e ≡ accepts (resting c) course decision

-- ---- ends

-- an attempt that ended without an accept: the targets that are sent a Release owe its answer
pub record IsGivenUp (c : Coordinating) (g : Going) (left : Coordinating) (releases : ℕ) : Type 0 where
  pub flights : left.flights ≡ with_flight c.flights (record { attempt = c.attempts; number = g.course.request.number; accepted = None; executes = 0; releases = releases })
  pub released : left.released ≡ releases
  pub attempts : left.attempts ≡ c.attempts
  pub batches : left.batches ≡ c.batches

-- all that were asked, but for the target that doesn't serve
abbrev pub releases_of : ℕ → Event → ℕ
releases_of asked (events.Down t) = minus asked (alone t)
releases_of asked _ = asked

abbrev pub accepts_some : Action → Bool
accepts_some (actions.Accept r) = true
accepts_some _ = false

-- ---- answers

-- whether an event answers what an attempt waits for
abbrev pub is_answer : Event → Waits → Bool
is_answer (events.Fact f) (waits.Look n) = true
is_answer (events.Fact f) (waits.Hold d t) = true
is_answer events.Synced (waits.Sync d synced t writer) = true
is_answer (events.Busy holder) w = true
is_answer (events.Down t) w = true
is_answer _ _ = false

unfoldable pub does_nothing : Action → Bool
does_nothing actions.Nothing = true
does_nothing _ = false

-- ---- holds

-- whether an attempt waits for a Held of this target
abbrev pub awaits_held : Waits → ℕ → Bool
awaits_held (waits.Look n) t = n.target == t
awaits_held (waits.Hold d u) t = u == t
awaits_held (waits.Sync d synced u writer) t = false

-- The targets that were sent a Hold are those that are held and the one that is awaited, without the home.
abbrev pub AsksHeld : ℕ → Option Going → Type 0
AsksHeld master None = Unit {0}
AsksHeld master (Some g) = (t : ℕ) → is_member g.course.asked t ≡ (not (t == master) && (is_held g.course.held t || awaits_held g.waits t))

-- at a decision they are those that are held, without the home
abbrev pub AskedHeld : ℕ → Course → Type 0
AskedHeld master k = (t : ℕ) → is_member k.asked t ≡ (not (t == master) && is_held k.held t)

-- ---- marks

-- a row of batches above this one that are stable everywhere
abbrev pub IsRow : List ℕ → ℕ → List ℕ → Type 0
IsRow stable m [] = Unit {0}
IsRow stable m (on ∷ ons) = (is_stable stable (m + 1) on ≡ true) × IsRow stable (m + 1) ons

-- the next isn't, or there is none
abbrev pub StopsAt : List ℕ → ℕ → List ℕ → Type 0
StopsAt stable m [] = Unit {0}
StopsAt stable m (on ∷ ons) = is_stable stable (m + 1) on ≡ false

pub record IsMark (stable : List ℕ) (from : ℕ) (ons : List ℕ) (mark : ℕ) : Type 0 where
  pub front : List ℕ
  pub rest : List ℕ
  pub parts : ons ≡ front ++ rest
  pub count : mark ≡ from + length front
  pub row : IsRow stable from front
  pub stops : StopsAt stable mark rest

-- each batch up to the mark is stable on each of its targets
pub record IsUpTo (c : Coordinating) : Type 0 where
  pub front : List ℕ
  pub rest : List ℕ
  pub parts : c.batches ≡ front ++ rest
  pub count : c.mark ≡ length front
  pub row : IsRow c.stable 0 front
