-- What a target knows, as a value.
use Rattle.std.specs.Prelude.{ℕ, List, [], Option, None, replicate}
use Rattle.std.specs.FinMap as map
use Rattle.reply_cache.specs.declared.seats.Seat.{Seat}
use Rattle.reply_cache.specs.Seats.{no_seats}
use Rattle.commit_sharing.specs.Pending.{Writers}
use Rattle.llog_store.specs.Log.{Log, empty_log}
use Rattle.object_store.specs.Objects.{ObjectMap, first_objects}
use Rattle.update_record.specs.declared.message.Attempt.{Attempt}
use Rattle.target_state.specs.declared.waiting.Waiting.{Waiting}

-- `seats` has one place for each client; `waiting` are the records that aren't committed, in the order in
-- which they were executed, and `writers` who wrote what by them; `ended` has for each master the greatest
-- attempt that ended here.
pub record TargetState : Type 0 where
  pub targets : ℕ
  pub index : ℕ
  pub epoch : ℕ
  pub transno : ℕ
  pub clock : ℕ
  pub next_batch : ℕ
  pub mark : ℕ
  pub seats : List (Option Seat)
  pub objects : ObjectMap
  pub log : Log
  pub waiting : List Waiting
  pub writers : Writers
  pub holder : Option Attempt
  pub ended : List ℕ

abbrev pub none_ended : List ℕ
none_ended = replicate 16 0

-- after formatting
abbrev pub first_state : ℕ → ℕ → TargetState
first_state targets index =
    record { targets = targets; index = index; epoch = 1; transno = 0; clock = 0; next_batch = 1; mark = 0; seats = no_seats; objects = first_objects index; log = empty_log; waiting = []; writers = map.empty; holder = None; ended = none_ended }
