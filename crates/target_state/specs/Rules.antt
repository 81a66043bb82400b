-- The rules at a target, as functions of its state.
use Rattle.std.specs.Prelude.{ℕ, ◌+◌, Bool, true, false, nat_le, nat_lt, ◌==◌, ◌&&◌, ◌||◌, if◌then◌else◌, List, [], ◌∷◌, ◌++◌, map, length, set, get_or, max, Option, Some, None}
use Rattle.std.specs.FinMap as writers
use Rattle.fid_space.specs.declared.fid.Fid.{Fid}
use Rattle.fid_space.specs.declared.class.Class.TheVariants as class
use Rattle.fid_space.specs.declared.class.Class.{Class}
use Rattle.fid_space.specs.Homes.{class_of}
use Rattle.out_update.specs.declared.update.Update.{Update}
use Rattle.out_update.specs.declared.update.Kind.TheVariants as kind
use Rattle.out_update.specs.declared.update.Kind.{Kind}
use Rattle.out_update.specs.declared.result.UpdateResult.{UpdateResult}
use Rattle.reply_cache.specs.declared.seats.Seat.{Seat}
use Rattle.reply_cache.specs.Seats.{put_seat}
use Rattle.commit_sharing.specs.Pending as pending
use Rattle.llog_store.specs.Log.{empty_log}
use Rattle.llog_store.specs.Changes.{appended}
use Rattle.object_store.specs.Meaning.{after_all}
use Rattle.object_store.specs.Reads.{reads}
use Rattle.update_record.specs.Spelling.{record_text, part_for, targets_from}
use Rattle.update_record.specs.declared.operation.Record.{Record}
use Rattle.update_record.specs.declared.message.Attempt.{Attempt}
use Rattle.update_record.specs.declared.message.Facts.{Facts}
use Rattle.target_state.specs.declared.answers.HoldAnswer.{HoldAnswer}
use Rattle.target_state.specs.declared.answers.HoldAnswer.TheVariants as hold
use Rattle.target_state.specs.declared.answers.ReleaseAnswer.{ReleaseAnswer}
use Rattle.target_state.specs.declared.answers.ReleaseAnswer.TheVariants as release
use Rattle.target_state.specs.declared.waiting.Waiting.{Waiting}
use Rattle.target_state.specs.declared.holding.Taking.{Taking}
use Rattle.target_state.specs.declared.holding.Taking.TheVariants.{Comes, Stays, TakesOver, Busy, Ended}
use Rattle.target_state.specs.State.{TargetState, none_ended}
use Rattle.target_state.specs.Image.{state_text}
use Rattle.target_state.specs.Commit.{settled}

-- ---- who holds

abbrev pub same_attempt : Attempt → Attempt → Bool
same_attempt a b = (a.epoch == b.epoch) && ((a.master == b.master) && ((a.attempt == b.attempt) && (a.number == b.number)))

abbrev pub is_held_by : Option Attempt → Attempt → Bool
is_held_by None by = false
is_held_by (Some h) by = same_attempt h by

-- the greatest attempt of the master that ended here is this one or a later one
abbrev pub is_past : List ℕ → Attempt → Bool
is_past ended by = nat_le by.attempt (get_or ended by.master 0)

abbrev pub with_ended : List ℕ → Attempt → List ℕ
with_ended ended by = set ended by.master (max (get_or ended by.master 0) by.attempt)

-- an earlier attempt of the same request
abbrev pub gives_way : Attempt → Attempt → Bool
gives_way h by = (h.number == by.number) && nat_lt h.attempt by.attempt

-- how a target takes one who wants to hold it is `Taking`
abbrev pub held_taking : Attempt → Bool → Attempt → Taking
held_taking h past by = if same_attempt h by then Stays else (if past then Ended else (if gives_way h by then TakesOver h else Busy h.number))

abbrev pub taken_at : Option Attempt → List ℕ → Attempt → Taking
taken_at None ended by = if is_past ended by then Ended else Comes
taken_at (Some h) ended by = held_taking h (is_past ended by) by

-- the cases in their order: another epoch; ended here; held by another; an earlier attempt; held; free
abbrev pub taken : TargetState → Attempt → Taking
taken s by = if by.epoch == s.epoch then taken_at s.holder s.ended by else Ended

-- the state of a target after one wanted to hold it
abbrev pub held_as : TargetState → Attempt → Taking → TargetState
held_as s by Comes = record s { holder = Some by }
held_as s by Stays = s
held_as s by (TakesOver old) = record s { holder = Some by; ended = with_ended s.ended old }
held_as s by (Busy n) = s
held_as s by Ended = s

abbrev pub after_hold : TargetState → Attempt → TargetState
after_hold s by = held_as s by (taken s by)

-- ---- what is told

abbrev pub is_stripe : Class → Bool
is_stripe class.Stripe = true
is_stripe _ = false

-- a question for the body of a stripe object is told no writer
abbrev pub has_no_writer : ℕ → Kind → Fid → Bool
has_no_writer targets kind.AttrGet fid = is_stripe (class_of targets fid)
has_no_writer targets _ fid = false

abbrev pub writer_told : TargetState → List Update → Option (ℕ × ℕ)
writer_told s [] = None
writer_told s (u ∷ us) = if has_no_writer s.targets u.kind u.fid then None else writers.get s.writers u.fid

abbrev pub results_told : TargetState → List Update → List UpdateResult
results_told s [] = []
results_told s (u ∷ us) = reads s.objects u ∷ []

abbrev pub facts : TargetState → ℕ → List Update → Facts
facts s load ask = record { load = load; clock = s.clock; writer = writer_told s ask; reply = results_told s ask }

abbrev pub answer_as : TargetState → ℕ → List Update → Taking → HoldAnswer
answer_as s load ask Comes = hold.Held (facts s load ask)
answer_as s load ask Stays = hold.Held (facts s load ask)
answer_as s load ask (TakesOver old) = hold.Held (facts s load ask)
answer_as s load ask (Busy n) = hold.Busy n
answer_as s load ask Ended = hold.Ended

-- ---- what is executed

abbrev pub updates_of : Option (List Update) → List Update
updates_of None = []
updates_of (Some us) = us

-- the updates of a record at a target
abbrev pub own_updates : ℕ → Record → List Update
own_updates index r = updates_of (part_for index r.parts)

-- at the home of a record its seat is put
abbrev pub own_seats : ℕ → List (Option Seat) → Record → List (Option Seat)
own_seats index seats r = if r.id.master == index then put_seat seats r.client r.number r.reply else seats

-- and its batch counted
abbrev pub own_batch : ℕ → ℕ → Record → ℕ
own_batch index next r = if r.id.master == index then max next (r.id.batch + 1) else next

abbrev pub waiting_of : Record → Waiting
waiting_of r = record { number = r.number; master = r.id.master; batch = r.id.batch }

-- a record is done: its seat at the home, its part, the log, the notes of what isn't committed
abbrev pub done_as : TargetState → Record → List Update → TargetState
done_as s r us =
    record s {
      seats = own_seats s.index s.seats r;
      log = appended s.log (record_text r);
      objects = after_all s.objects us;
      writers = pending.noted r.number (targets_from 0 r.parts) s.writers (map (λ (u : Update). u.fid) us);
      waiting = s.waiting ++ (waiting_of r ∷ []);
      transno = s.transno + 1;
    }

abbrev pub done : TargetState → Record → TargetState
done s r = done_as s r (own_updates s.index r)

-- the target is let go, and the attempt noted as ended
abbrev pub let_go : TargetState → Attempt → TargetState
let_go s by = record s { holder = None; ended = with_ended s.ended by }

-- an attempt executes
abbrev pub executed : TargetState → Attempt → Record → TargetState
executed s by r = let_go (record (done s r) { clock = r.stamp; next_batch = own_batch s.index s.next_batch r }) by

abbrev pub after_execute : TargetState → Attempt → Record → TargetState
after_execute s by r = if is_held_by s.holder by then executed s by r else s

abbrev pub release_answer : TargetState → Attempt → ReleaseAnswer
release_answer s by =
    if by.epoch == s.epoch
    then (if is_held_by s.holder by then release.LetGo else (if is_past s.ended by then release.Ended else release.Noted))
    else release.Ended

-- an attempt lets go
abbrev pub after_release : TargetState → Attempt → TargetState
after_release s by =
    if by.epoch == s.epoch
    then (if is_held_by s.holder by then let_go s by else (if is_past s.ended by then s else record s { ended = with_ended s.ended by }))
    else s

-- no one holds it, and no attempt has ended
abbrev pub forgotten : TargetState → TargetState
forgotten s = record s { holder = None; ended = none_ended }

-- ---- a recovery

-- It ends: the log is empty, and with the epoch holds, notes, batches and marks begin anew.
abbrev pub renewed : ℕ → TargetState → TargetState
renewed epoch s = record (settled (forgotten s)) { epoch = epoch; next_batch = 1; mark = 0; log = empty_log }

-- the greatest load at which a record is redone, and the greatest index that its log gives next
abbrev pub most_redo_load : ℕ
most_redo_load = 32500000

abbrev pub most_redo_next : ℕ
most_redo_next = 255000

abbrev pub is_passed_over : TargetState → Bool
is_passed_over s = nat_lt most_redo_load (length (state_text s)) || nat_lt most_redo_next s.log.next

-- A record is done again, where there is room. The clock stays, and no batch is counted: batches begin anew with
-- the epoch.
abbrev pub after_redo : TargetState → Record → TargetState
after_redo s r = if is_passed_over s then s else done s r
