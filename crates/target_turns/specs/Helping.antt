-- What a target does for the home of a request elsewhere.
use Rattle.std.specs.Prelude.{ℕ, Bool, true, false, if◌then◌else◌, List, [], ◌∷◌, length}
use Rattle.out_update.specs.declared.update.Update.{Update}
use Rattle.update_record.specs.declared.message.Message.{Message}
use Rattle.update_record.specs.declared.operation.Record.{Record}
use Rattle.scenario_text.specs.declared.line.Line.{Line}
use Rattle.scenario_text.specs.declared.line.Line.TheVariants as lines
use Rattle.target_state.specs.declared.answers.ExecuteAnswer.{ExecuteAnswer}
use Rattle.target_state.specs.declared.answers.ExecuteAnswer.TheVariants as execute
use Rattle.target_state.specs.declared.answers.HoldAnswer.{HoldAnswer}
use Rattle.target_state.specs.declared.answers.HoldAnswer.TheVariants as hold
use Rattle.target_state.specs.declared.answers.ReleaseAnswer.{ReleaseAnswer}
use Rattle.target_state.specs.declared.answers.ReleaseAnswer.TheVariants as release
use Rattle.target_state.specs.Image.{state_text}
use Rattle.target_state.specs.Rules.{is_held_by, taken, after_hold, answer_as, after_execute, after_release, release_answer}
use Rattle.cluster_mail.specs.Answering.{attempt_of, held_message, busy_message, synced_message, executed_message, released_message}
use Rattle.target_turns.specs.Target.{Target, Fate, Turned, quiet, says, sends, joins, serves}
use Rattle.target_turns.specs.Marks.{syncing}

-- a message that has nothing to say any more
abbrev pub ignores : ℕ → Target → Turned
ignores k t = says t (lines.Ignored k ∷ [])

-- ---- it is asked to be held

abbrev pub held_as : ℕ → Target → Message → HoldAnswer → Turned
held_as k t m (hold.Held f) = sends (record t { node = after_hold t.node (attempt_of m) }) (held_message t.node.epoch t.index m f ∷ [])
held_as k t m (hold.Busy holder) = sends (record t { node = after_hold t.node (attempt_of m) }) (busy_message t.node.epoch t.index m holder ∷ [])
held_as k t m hold.Ended = ignores k (record t { node = after_hold t.node (attempt_of m) })

abbrev pub on_hold : ℕ → Target → Message → List Update → Turned
on_hold k t m question = held_as k t m (answer_as t.node (length (state_text t.node)) question (taken t.node (attempt_of m)))

-- ---- it is asked to commit

-- it answers, where it still serves
abbrev pub synced_from : Message → Turned → Turned
synced_from m u = if serves u.target then joins u (sends u.target (synced_message u.target.node.epoch u.target.index m ∷ [])) else u

abbrev pub on_sync : ℕ → Target → Message → Fate → Turned
on_sync k t m f = if is_held_by t.node.holder (attempt_of m) then synced_from m (syncing m.number m.value t f) else ignores k t

-- ---- it gets the record of an operation that was accepted

abbrev pub execute_answer : Target → Message → ExecuteAnswer
execute_answer t m = if is_held_by t.node.holder (attempt_of m) then execute.Done else execute.Ended

abbrev pub executed_line : ℕ → ℕ → ℕ → ExecuteAnswer → Line
executed_line k index number execute.Done = lines.Done number index
executed_line k index number execute.Ended = lines.Ignored k

abbrev pub on_execute : ℕ → Target → Message → Record → Turned
on_execute k t m r =
    record {
      target = record t { node = after_execute t.node (attempt_of m) r };
      lines = executed_line k t.index m.number (execute_answer t m) ∷ [];
      sent = executed_message t.node.epoch t.index m ∷ [];
    }

-- ---- it is let go

abbrev pub released_lines : ℕ → ReleaseAnswer → List Line
released_lines k release.Ended = lines.Ignored k ∷ []
released_lines k _ = []

abbrev pub on_release : ℕ → Target → Message → Turned
on_release k t m =
    record {
      target = record t { node = after_release t.node (attempt_of m) };
      lines = released_lines k (release_answer t.node (attempt_of m));
      sent = released_message t.node.epoch t.index m ∷ [];
    }
