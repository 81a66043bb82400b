-- The rules at the home of a request, as functions of what is seen of it.
use Rattle.std.specs.Prelude.{ℕ, ◌+◌, Bool, false, not, nat_lt, ◌==◌, ◌&&◌, ◌||◌, if◌then◌else◌, List, [], ◌∷◌, ◌++◌, length, map, filter, slice_get, max, Option, Some, None}
use Rattle.fid_space.specs.Targets.{is_member, joined, minus}
use Rattle.out_update.specs.declared.update.Update.{Update}
use Rattle.out_update.specs.declared.result.UpdateResult.{UpdateResult}
use Rattle.commit_sharing.specs.declared.sharing.Seen.{Seen}
use Rattle.commit_sharing.specs.Sharing.{must_sync}
use Rattle.tree_model.specs.declared.op.Op.{Op}
use Rattle.tree_model.specs.declared.op.Op.TheVariants as ops
use Rattle.tree_model.specs.declared.op.Request.{Request}
use Rattle.striped_dir.specs.declared.plan.Need.{Need}
use Rattle.striped_dir.specs.declared.plan.Decision.{Decision}
use Rattle.striped_dir.specs.declared.plan.Step.{Step}
use Rattle.striped_dir.specs.declared.plan.Step.TheVariants as steps
use Rattle.plan_base.specs.Planners.{step_after, after_fact}
use Rattle.plan_record.specs.Recorded.{reads}
use Rattle.update_coordinator.specs.Planned.{first_planning}
use Rattle.update_record.specs.declared.operation.Record.{Record}
use Rattle.update_record.specs.declared.message.Facts.{Facts}
use Rattle.update_coordinator.specs.declared.words.Event.{Event}
use Rattle.update_coordinator.specs.declared.words.Event.TheVariants as events
use Rattle.update_coordinator.specs.declared.words.Action.{Action}
use Rattle.update_coordinator.specs.declared.words.Action.TheVariants as actions
use Rattle.update_coordinator.specs.declared.words.Held.{Held}
use Rattle.update_coordinator.specs.declared.words.Course.{Course}
use Rattle.update_coordinator.specs.declared.words.Going.{Going}
use Rattle.update_coordinator.specs.declared.words.Waits.{Waits}
use Rattle.update_coordinator.specs.declared.words.Waits.TheVariants as waits
use Rattle.update_coordinator.specs.declared.words.Flight.{Flight}
use Rattle.update_coordinator.specs.Coordinating.{Coordinating}

-- ---- sets of targets

abbrev pub all_targets : List ℕ
all_targets = 0 ∷ 1 ∷ 2 ∷ 3 ∷ 4 ∷ 5 ∷ 6 ∷ 7 ∷ 8 ∷ 9 ∷ 10 ∷ 11 ∷ 12 ∷ 13 ∷ 14 ∷ 15 ∷ []

abbrev pub alone : ℕ → ℕ
alone t = joined 0 t

-- ---- what an operation is and needs

-- the room that a target needs for it, in bytes
abbrev pub room_for : Op → ℕ
room_for (ops.Unlink p x) = 131072
room_for (ops.Rmdir p x) = 131072
room_for (ops.SetAttr f m u g) = 131072
room_for (ops.DelXattr f x) = 131072
room_for _ = 1179648

-- ---- what was told

abbrev pub is_held : List Held → ℕ → Bool
is_held [] t = false
is_held (h ∷ hs) t = (h.target == t) || is_held hs t

abbrev pub load_from : ℕ → ℕ → List Held → ℕ
load_from t load [] = load
load_from t load (h ∷ hs) = load_from t (if h.target == t then h.load else load) hs

-- the load that a target told last
abbrev pub load_of : List Held → ℕ → ℕ
load_of held t = load_from t 0 held

abbrev pub clock_from : ℕ → List Held → ℕ
clock_from clock [] = clock
clock_from clock (h ∷ hs) = clock_from (max clock h.clock) hs

-- one more than the greatest clock
abbrev pub stamp_of : List Held → ℕ
stamp_of held = clock_from 0 held + 1

-- the first participant that isn't held
abbrev pub unheld : List Held → List (ℕ × List Update) → Option ℕ
unheld held [] = None
unheld held (p ∷ ps) = if is_held held p.0 then unheld held ps else Some p.0

-- the first participant without room, and its load
abbrev pub full : ℕ → List Held → List (ℕ × List Update) → Option (ℕ × ℕ)
full need held [] = None
full need held (p ∷ ps) = if nat_lt 5242880 (load_of held p.0 + need) then Some (p.0, load_of held p.0) else full need held ps

abbrev pub sync_first : ℕ → Option ℕ → Option (ℕ × ℕ) → Option (ℕ × ℕ)
sync_first t None rest = rest
sync_first t (Some writer) rest = Some (t, writer)

-- of these targets the first that has to commit and hasn't, and the writer
abbrev pub unsynced : List ℕ → List Seen → ℕ → ℕ → Option (ℕ × ℕ)
unsynced [] seen on synced = None
unsynced (t ∷ ts) seen on synced = if is_member synced t then unsynced ts seen on synced else sync_first t (must_sync seen on t) (unsynced ts seen on synced)

-- the same of all targets
unfoldable pub next_sync : List Seen → ℕ → ℕ → Option (ℕ × ℕ)
next_sync seen on synced = unsynced all_targets seen on synced

-- ---- owed answers

abbrev pub is_idle : Flight → Bool
is_idle f = (f.executes == 0) && (f.releases == 0)

abbrev pub with_flight : List Flight → Flight → List Flight
with_flight fs f = if is_idle f then fs else fs ++ f ∷ []

abbrev pub is_busy : Flight → Bool
is_busy f = not (is_idle f)

abbrev pub executed_by : ℕ → ℕ → Flight → Flight
executed_by t attempt f = if f.attempt == attempt then record f { executes = minus f.executes (alone t) } else f

abbrev pub released_by : ℕ → ℕ → Flight → Flight
released_by t attempt f = if f.attempt == attempt then record f { releases = minus f.releases (alone t) } else f

-- ---- the rules

-- what a call leaves, and what is to be done
pub record Gone : Type 0 where
  pub after : Coordinating
  pub action : Action

abbrev pub nothing : Coordinating → Gone
nothing c = record { after = c; action = actions.Nothing }

-- the attempt waits, and has asked a target
abbrev pub goes : Coordinating → Course → ℕ → Waits → Action → Gone
goes c k t w a = record { after = record c { asks = (if t == c.master then c.asks else c.asks + 1); current = Some (record { course = k; waits = w }) }; action = a }

-- a target is sent a Hold
abbrev pub asking : ℕ → Course → ℕ → Course
asking master k t = record k { asked = (if t == master then k.asked else joined k.asked t) }

abbrev pub ended_flight : Coordinating → Course → ℕ → Flight
ended_flight c k releases = record { attempt = c.attempts; number = k.request.number; accepted = None; executes = 0; releases = releases }

-- the attempt ends, and these targets are sent a Release
abbrev pub ends : Coordinating → Course → ℕ → Action → Gone
ends c k releases a = record { after = record c { current = None; flights = with_flight c.flights (ended_flight c k releases); released = releases }; action = a }

abbrev pub record_of : Coordinating → Course → Decision → Record
record_of c k d = record { id = record { epoch = c.epoch; master = c.master; batch = length c.batches + 1 }; stamp = stamp_of k.held; number = k.request.number; client = k.request.client; reply = d.reply; parts = d.parts }

abbrev pub accepted_flight : Coordinating → Course → Decision → Flight
accepted_flight c k d = record { attempt = c.attempts; number = k.request.number; accepted = Some (record_of c k d); executes = minus d.on (alone c.master); releases = minus k.asked d.on }

unfoldable pub accepts : Coordinating → Course → Decision → Gone
accepts c k d = record { after = record c { current = None; flights = with_flight c.flights (accepted_flight c k d); released = minus k.asked d.on; batches = c.batches ++ d.on ∷ [] }; action = actions.Accept (record_of c k d) }

-- third step of the decision: commits
unfoldable pub syncs : Coordinating → Course → Decision → ℕ → Option (ℕ × ℕ) → Gone
syncs c k d synced None = accepts c k d
syncs c k d synced (Some s) = goes c k s.0 (waits.Sync d synced s.0 s.1) (actions.Sync s.0 s.1)

-- second step: room
unfoldable pub rooms : Coordinating → Course → Decision → ℕ → Option (ℕ × ℕ) → Gone
rooms c k d synced None = syncs c k d synced (next_sync k.seen d.on synced)
rooms c k d synced (Some f) = ends c k k.asked (actions.Full f.0 f.1 (room_for k.request.op))

-- first step: all participants are held
unfoldable pub holds : Coordinating → Course → Decision → ℕ → Option ℕ → Gone
holds c k d synced None = rooms c k d synced (full (room_for k.request.op) k.held d.parts)
holds c k d synced (Some t) = goes c (asking c.master k t) t (waits.Hold d t) (actions.HoldOnly t)

-- the decision of an operation that isn't a read, where these targets have committed
abbrev pub settles : Coordinating → Course → Decision → ℕ → Gone
settles c k d synced = holds c k d synced (unheld k.held d.parts)

-- a need of the planner
abbrev pub needs : Coordinating → Course → Need → Gone
needs c k n = goes c (asking c.master k n.target) n.target (waits.Look n) (actions.Ask n)

-- a decision of the planner: a read is answered, and anything else is settled
abbrev pub decides : Coordinating → Course → Decision → Gone
decides c k d = if reads k.request.op then ends c k k.asked (actions.Answer d.reply) else settles c k d 0

-- a step of the planner
unfoldable pub follows : Coordinating → Course → Step → Gone
follows c k (steps.Need n) = needs c k n
follows c k (steps.Decided d) = decides c k d

-- a request comes to its home, which is held
abbrev pub course_of : ℕ → Request → Held → ℕ → Course
course_of targets r home batch = record { request = r; planner = first_planning targets r.op batch; seen = []; held = home ∷ []; asked = 0 }

-- with the load and the clock of its home
abbrev pub first_course : Coordinating → Request → ℕ → ℕ → Course
first_course c r load clock = course_of c.targets r (record { target = c.master; load = load; clock = clock }) (length c.batches + 1)

abbrev pub stepped : Course → Option UpdateResult → Course
stepped k r = record k { planner = after_fact k.planner r }

abbrev pub started : Coordinating → Request → ℕ → ℕ → Gone
started c r load clock =
    let k = first_course c r load clock in
    follows (record c { attempts = c.attempts + 1; asks = 0; released = 0 }) (stepped k None) (step_after k.planner None)

-- a target told; the home told when the attempt began
abbrev pub held_more : ℕ → List Held → ℕ → Facts → List Held
held_more master held t f = if t == master then held else held ++ record { target = t; load = f.load; clock = f.clock } ∷ []

abbrev pub told : ℕ → Course → ℕ → Facts → Course
told master k t f = record k { held = held_more master k.held t f }

abbrev pub looked : ℕ → Course → Need → Facts → Course
looked master k n f = record (told master k n.target f) { seen = k.seen ++ record { target = n.target; fid = n.ask.fid; writer = f.writer } ∷ [] }

abbrev pub first_result : Facts → Option UpdateResult
first_result f = slice_get f.reply 0

-- facts come for what is awaited; where a commit is awaited they change nothing
abbrev pub fact_for : Coordinating → Course → Facts → Waits → Gone
fact_for c k f (waits.Look n) = follows c (stepped (looked c.master k n f) (first_result f)) (step_after k.planner (first_result f))
fact_for c k f (waits.Hold d t) = settles c (told c.master k t f) d 0
fact_for c k f (waits.Sync d synced t writer) = nothing (record c { current = Some (record { course = k; waits = waits.Sync d synced t writer }) })

abbrev pub on_fact : Coordinating → Facts → Option Going → Gone
on_fact c f None = nothing c
on_fact c f (Some g) = fact_for c g.course f g.waits

abbrev pub synced_for : Coordinating → Course → Waits → Gone
synced_for c k (waits.Sync d synced t writer) = settles c k d (joined synced t)
synced_for c k (waits.Look n) = nothing (record c { current = Some (record { course = k; waits = waits.Look n }) })
synced_for c k (waits.Hold d t) = nothing (record c { current = Some (record { course = k; waits = waits.Hold d t }) })

abbrev pub on_synced : Coordinating → Option Going → Gone
on_synced c None = nothing c
on_synced c (Some g) = synced_for c g.course g.waits

abbrev pub gives_up : Coordinating → Option Going → Action → Gone
gives_up c None a = nothing c
gives_up c (Some g) a = ends c g.course g.course.asked a

abbrev pub on_down : Coordinating → ℕ → Option Going → Gone
on_down c t None = nothing c
on_down c t (Some g) = ends c g.course (minus g.course.asked (alone t)) (actions.Recovering t)

abbrev pub fewer : Coordinating → List Flight → Coordinating
fewer c fs = record c { flights = filter is_busy fs }

-- without the attempt, which the call takes out
abbrev pub resting : Coordinating → Coordinating
resting c = record c { current = None; released = 0 }

abbrev pub unreleased : Coordinating → Coordinating
unreleased c = record c { released = 0 }

unfoldable pub heard : Coordinating → Event → Gone
heard c (events.Fact f) = on_fact (resting c) f c.current
heard c (events.Busy holder) = gives_up (resting c) c.current (actions.Busy holder)
heard c (events.Down t) = on_down (resting c) t c.current
heard c events.Synced = on_synced (resting c) c.current
heard c (events.Executed t attempt) = nothing (fewer (unreleased c) (map (executed_by t attempt) c.flights))
heard c (events.Released t attempt) = nothing (fewer (unreleased c) (map (released_by t attempt) c.flights))
