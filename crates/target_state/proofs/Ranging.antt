-- A state whose image is read back stays one, whatever is done.
use Rattle.std.proofs.Common.{◌≡◌, ℕ, ◌+◌, ◌<◌, ◌≤◌, ◌==◌, Bool, true, false, cond, if◌then◌else◌, List, [], ◌∷◌, map, max, Option, Some, None, refl, arith}
use Rattle.std.specs.List.{AllByRecursion}
use Rattle.llog_store.specs.Log.{Entry, Log, empty_log}
use Rattle.llog_store.specs.Changes.{live_payloads, appended, repacked}
use Rattle.update_record.specs.declared.operation.Record.{Record}
use Rattle.update_record.specs.declared.message.Attempt.{Attempt}
use Rattle.update_record.specs.Spelling.{FitsRecord, record_text}
use Rattle.state_image.specs.FrontText.{last_epoch, most}
use Rattle.state_image.specs.StateText.{is_own, IsOwn, AreOwn}
use Rattle.target_state.specs.declared.holding.Taking.{Taking}
use Rattle.target_state.specs.declared.holding.Taking.TheVariants.{Comes, Stays, TakesOver, Busy, Ended}
use Rattle.target_state.specs.State.{TargetState}
use Rattle.target_state.specs.Image.{IsInRange}
use Rattle.target_state.specs.Commit.{is_half_cancelled, packed, committed}
use Rattle.target_state.specs.Marking.{id_in, is_up_to, without_done, cancelled, marked}
use Rattle.target_state.specs.Rules.{is_held_by, is_past, with_ended, taken, held_as, after_hold, done, executed, after_execute, after_release, forgotten, renewed, is_passed_over, after_redo}

either : (b : Bool) (s t : TargetState) → IsInRange s → IsInRange t → IsInRange (if b then s else t)
either true s t r q = r
either false s t r q = q

-- ---- who holds

held_by : (s : TargetState) (holder : Option Attempt) (ended : List ℕ) → IsInRange s → IsInRange (record s { holder = holder; ended = ended })
held_by s holder ended r =
    record { epoch_set = r.epoch_set; epoch = r.epoch; transno = r.transno; clock = r.clock; batch_set = r.batch_set; batch = r.batch; mark = r.mark; own = r.own }

held : (s : TargetState) (by : Attempt) (t : Taking) → IsInRange s → IsInRange (held_as s by t)
held s by Comes r = held_by s (Some by) s.ended r
held s by Stays r = r
held s by (TakesOver old) r = held_by s (Some by) (with_ended s.ended old) r
held s by (Busy n) r = r
held s by Ended r = r

pub hold_stays : (s : TargetState) (by : Attempt) → IsInRange s → IsInRange (after_hold s by)
hold_stays s by r = held s by (taken s by) r

pub release_stays : (s : TargetState) (by : Attempt) → IsInRange s → IsInRange (after_release s by)
release_stays s by r =
    let let_go_of = held_by s None (with_ended s.ended by) r in
    let noted = held_by s s.holder (with_ended s.ended by) r in
    either (by.epoch == s.epoch) _ s (either (is_held_by s.holder by) _ _ let_go_of (either (is_past s.ended by) s _ r noted)) r

pub recovery_stays : (s : TargetState) → IsInRange s → IsInRange (forgotten s)
recovery_stays s r = held_by s None (forgotten s).ended r

-- ---- what is executed

-- by what is proved of logs
abbrev pub AppendKeeps : Type 0
AppendKeeps = (targets index : ℕ) (log : Log) (payload : List ℕ) → AreOwn targets index log → IsOwn targets index payload → AreOwn targets index (appended log payload)

abbrev pub PackKeeps : Type 0
PackKeeps = (targets index : ℕ) (log : Log) → AreOwn targets index log → AreOwn targets index (repacked log)

batch_if : (b : Bool) (next batch : ℕ) → 1 ≤ next → next ≤ most → batch < most → (1 ≤ (if b then max next (batch + 1) else next)) × ((if b then max next (batch + 1) else next) ≤ most)
batch_if true next batch set low small = (omega (arith, set), omega (arith, low, small))
batch_if false next batch set low small = (set, low)

kept : AppendKeeps → (s : TargetState) (r : Record) → IsInRange s → FitsRecord r → is_own s.targets s.index r ≡ true → AreOwn s.targets s.index (done s r).log
kept appends s r range fits own = appends s.targets s.index s.log (record_text r) range.own (r, (fits, refl), own)

pub execute_stays : AppendKeeps → (s : TargetState) (by : Attempt) (r : Record) → IsInRange s → FitsRecord r → is_own s.targets s.index r ≡ true → s.transno < most → r.stamp ≤ most → r.id.batch < most → IsInRange (after_execute s by r)
execute_stays appends s by r range fits own few stamp small =
    let batch = batch_if (r.id.master == s.index) s.next_batch r.id.batch range.batch_set range.batch small in
    either (is_held_by s.holder by) (executed s by r) s
    (record { epoch_set = range.epoch_set; epoch = range.epoch; transno = omega (arith, few); clock = stamp; batch_set = batch.0; batch = batch.1; mark = range.mark; own = kept appends s r range fits own }) range

pub redo_stays : AppendKeeps → (s : TargetState) (r : Record) → IsInRange s → FitsRecord r → is_own s.targets s.index r ≡ true → s.transno < most → IsInRange (after_redo s r)
redo_stays appends s r range fits own few =
    either (is_passed_over s) s (done s r) range
    (record { epoch_set = range.epoch_set; epoch = range.epoch; transno = omega (arith, few); clock = range.clock; batch_set = range.batch_set; batch = range.batch; mark = range.mark; own = kept appends s r range fits own })

-- ---- what is cancelled

module _ (P : List ℕ → Type 0) where
  cleared : (b l : Bool) (e : Entry) (ps qs : List (List ℕ)) → e.live ≡ l → (AllByRecursion P ps → AllByRecursion P qs) → AllByRecursion P (cond l (e.payload ∷ ps) ps)
      → AllByRecursion P (cond (cond b (record { index = e.index; live = false; payload = e.payload }) e).live ((cond b (record { index = e.index; live = false; payload = e.payload }) e).payload ∷ qs) qs)
  cleared true true e ps qs is f all = f all.1
  cleared true false e ps qs is f all = f all
  cleared false true e ps qs is f all = rw is (all.0, f all.1)
  cleared false false e ps qs is f all = rw is (f all)

  cancel_keeps : (master mark : ℕ) (es : List Entry) → AllByRecursion P (live_payloads es) → AllByRecursion P (live_payloads (map (without_done master mark) es))
  unfolding live_payloads
  cancel_keeps master mark [] all = tt
  cancel_keeps master mark (e ∷ es) all =
      cleared (is_up_to master mark (id_in e.payload)) e.live e (live_payloads es) (live_payloads (map (without_done master mark) es)) refl (cancel_keeps master mark es) all

pub cancel_stays : (s : TargetState) (master mark : ℕ) → IsInRange s → IsInRange (cancelled s master mark)
cancel_stays s master mark r =
    record { epoch_set = r.epoch_set; epoch = r.epoch; transno = r.transno; clock = r.clock; batch_set = r.batch_set; batch = r.batch; mark = r.mark; own = cancel_keeps (IsOwn s.targets s.index) master mark s.log.entries r.own }

pub mark_stays : (s : TargetState) (mark : ℕ) → IsInRange s → mark ≤ most → IsInRange (marked s mark)
mark_stays s mark r low =
    let before = r.mark in
    cancel_stays (record s { mark = max s.mark mark }) s.index (max s.mark mark)
    (record { epoch_set = r.epoch_set; epoch = r.epoch; transno = r.transno; clock = r.clock; batch_set = r.batch_set; batch = r.batch; mark = omega (arith, before, low); own = r.own })

-- ---- what is committed

log_if : PackKeeps → (b : Bool) (targets index : ℕ) (log : Log) → AreOwn targets index log → AreOwn targets index (if b then repacked log else log)
log_if packs true targets index log own = packs targets index log own
log_if packs false targets index log own = own

pub pack_stays : PackKeeps → (s : TargetState) → IsInRange s → IsInRange (packed s)
pack_stays packs s r =
    record { epoch_set = r.epoch_set; epoch = r.epoch; transno = r.transno; clock = r.clock; batch_set = r.batch_set; batch = r.batch; mark = r.mark; own = log_if packs (is_half_cancelled s.log) s.targets s.index s.log r.own }

pub commit_stays : PackKeeps → (s : TargetState) → IsInRange s → IsInRange (committed s)
commit_stays packs s r =
    let p = pack_stays packs s r in
    record { epoch_set = p.epoch_set; epoch = p.epoch; transno = p.transno; clock = p.clock; batch_set = p.batch_set; batch = p.batch; mark = p.mark; own = p.own }

none_own : (targets index : ℕ) → AreOwn targets index empty_log
unfolding live_payloads
none_own targets index = tt

pub renew_stays : (s : TargetState) (epoch : ℕ) → IsInRange s → 1 ≤ epoch → epoch ≤ last_epoch → IsInRange (renewed epoch s)
renew_stays s epoch r set low =
    record { epoch_set = set; epoch = low; transno = r.transno; clock = r.clock; batch_set = omega arith; batch = omega arith; mark = omega arith; own = none_own s.targets s.index }
