-- What a target does about what is durable.
use Rattle.std.specs.Prelude.{ℕ, Bool, true, false, not, ◌&&◌, nat_lt, ◌==◌, if◌then◌else◌, List, [], ◌∷◌, ◌++◌, length}
use Rattle.std.specs.List.{flat_map}
use Rattle.fid_space.specs.Targets.{is_member}
use Rattle.update_record.specs.declared.message.Message.{Message}
use Rattle.scenario_text.specs.declared.line.Line.TheVariants as lines
use Rattle.target_state.specs.Commit.{is_empty, committed, listed}
use Rattle.target_state.specs.Marking.{marked, stable_marks}
use Rattle.target_state.specs.State.{TargetState}
use Rattle.update_coordinator.specs.Coordinating.{Coordinating}
use Rattle.update_coordinator.specs.Marks.{noted, between_from}
use Rattle.update_coordinator.specs.Resending.{resent}
use Rattle.update_coordinator.specs.Rules.{all_targets}
use Rattle.cluster_mail.specs.Answering.{stable_message, cancel_message}
use Rattle.target_turns.specs.Target.{Target, Fate, Turned, target_down, quiet, says, joins}

-- the mark of the home, where it is above the one that the node has
abbrev pub with_mark : TargetState → ℕ → TargetState
with_mark s mark = if nat_lt s.mark mark then marked s mark else s

abbrev pub noted_from : Target → Coordinating → Target
noted_from t home = record t { home = home; node = with_mark t.node home.mark }

-- a target has committed the batches of this master up to one
abbrev pub note : Target → ℕ → ℕ → Target
note t from batch = noted_from t (noted t.home from batch)

-- ---- messages

-- another master is told of its batch
abbrev pub stable_to : ℕ → ℕ → ℕ × ℕ → List Message
stable_to epoch index m = if m.0 == index then [] else stable_message epoch index m.0 m.1 ∷ []

-- each other master of these pairs
unfoldable pub stables : ℕ → ℕ → List (ℕ × ℕ) → List Message
stables epoch index ms = flat_map (stable_to epoch index) ms

-- another target of the cluster is told of the mark, where it is one of a set
abbrev pub cancel_to : Target → ℕ → ℕ → ℕ → List Message
cancel_to t mark on to = if nat_lt to t.targets && (is_member on to && not (to == t.index)) then cancel_message t.node.epoch t.index to mark ∷ [] else []

-- each other target of a set
unfoldable pub cancels : Target → ℕ → ℕ → List Message
cancels t mark on = flat_map (cancel_to t mark on) all_targets

-- the targets of the batches above the mark that was last sent are told of a higher one
abbrev pub risen_cancels : Target → List Message
risen_cancels t = if nat_lt t.sent_mark t.node.mark then cancels t t.node.mark (between_from t.home.batches 0 t.sent_mark t.node.mark 0) else []

abbrev pub with_sent : Target → Target
with_sent t = record t { sent_mark = (if nat_lt t.sent_mark t.node.mark then t.node.mark else t.sent_mark) }

-- ---- a commit

-- the disk has committed: what is told of it, and the own batches that are stable here now
abbrev pub tells : Target → List ℕ → List (ℕ × ℕ) → Turned
tells t numbers batches =
    record {
      target = note (with_sent t) t.index (length t.home.batches);
      lines = lines.Stable t.index numbers ∷ [];
      sent = stables t.node.epoch t.index batches ++ risen_cancels t;
    }

abbrev pub commits : Target → Fate → Turned
commits t f = tells (record t { node = committed t.node; disk = f.disk }) (listed t.node.index t.node.waiting).stable (listed t.node.index t.node.waiting).batches

-- its disk has failed
abbrev pub stops : Target → Fate → Turned
stops t f = says (target_down t.targets t.index true f.disk) (lines.Down t.index ∷ [])

-- Served::commit
abbrev pub committing : Target → Fate → Turned
committing t f = if f.up then commits t f else stops t f

-- a commit before a request goes on, because of what this writer wrote, where something isn't committed
abbrev pub syncing : ℕ → ℕ → Target → Fate → Turned
syncing number writer t f = if is_empty t.node.waiting then quiet t else joins (says t (lines.Shared t.index number writer ∷ [])) (committing t f)

-- ---- what is sent once more

abbrev pub cancels_again : Target → List Message
cancels_again t = if t.sent_mark == 0 then [] else cancels t t.sent_mark 65535

abbrev pub resending : Target → List Message
resending t = resent t.home ++ (stables t.node.epoch t.index (stable_marks t.node) ++ cancels_again t)
