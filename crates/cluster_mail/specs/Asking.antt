-- The messages of an attempt's home.
use Rattle.std.specs.Prelude.{ℕ, List, []}
use Rattle.out_update.specs.declared.update.Update.{Update}
use Rattle.out_update.specs.Spelling.{request_text}
use Rattle.update_record.specs.declared.message.Attempt.{Attempt}
use Rattle.update_record.specs.declared.message.Message.{Message}
use Rattle.update_record.specs.declared.message.MessageKind.{MessageKind}
use Rattle.update_record.specs.declared.message.MessageKind.TheVariants as kind
use Rattle.update_record.specs.declared.operation.Record.{Record}
use Rattle.update_record.specs.Spelling.{record_text}

-- a message of this kind to a target, as this ask of the attempt, or as none
abbrev pub order_to : MessageKind → Attempt → ℕ → ℕ → ℕ → List ℕ → Message
order_to k by to ask value body = record { kind = k; epoch = by.epoch; from = by.master; to = to; number = by.number; attempt = by.attempt; ask = ask; value = value; body = body }

-- asks a target to be held, with a question or none
abbrev pub hold_message : Attempt → ℕ → ℕ → List Update → Message
hold_message by to ask question = order_to kind.Hold by to ask 0 (request_text question)

-- asks a target to commit what this request wrote there
abbrev pub sync_message : Attempt → ℕ → ℕ → ℕ → Message
sync_message by to ask writer = order_to kind.Sync by to ask writer []

-- the record of what was accepted
abbrev pub execute_message : Attempt → ℕ → Record → Message
execute_message by to r = order_to kind.Execute by to 0 0 (record_text r)

abbrev pub release_message : Attempt → ℕ → Message
release_message by to = order_to kind.Release by to 0 0 []
