-- The messages that answer others, and those that tell of batches.
use Rattle.std.specs.Prelude.{◌≡◌, ◌≤◌, ℕ, List, []}
use Rattle.update_record.specs.declared.message.Attempt.{Attempt}
use Rattle.update_record.specs.declared.message.Facts.{Facts}
use Rattle.update_record.specs.declared.message.Message.{Message}
use Rattle.update_record.specs.declared.message.MessageKind.{MessageKind}
use Rattle.update_record.specs.declared.message.MessageKind.TheVariants as kind
use Rattle.update_record.specs.Messages.{facts_text, FitsMessage}

-- a message of this kind from a target to a target, which may be sent
pub record ComesAs (k : MessageKind) (m : Message) : Type 0 where
  pub is : m.kind ≡ k
  pub from : m.from ≤ 15
  pub fits : FitsMessage m

-- the attempt that a message of its home is of
abbrev pub attempt_of : Message → Attempt
attempt_of m = record { epoch = m.epoch; master = m.from; attempt = m.attempt; number = m.number }

-- what a target answers in its epoch, of the same request, attempt and ask
abbrev pub answer_to : MessageKind → ℕ → ℕ → Message → ℕ → List ℕ → Message
answer_to k epoch from m value body = record { kind = k; epoch = epoch; from = from; to = m.from; number = m.number; attempt = m.attempt; ask = m.ask; value = value; body = body }

abbrev pub held_message : ℕ → ℕ → Message → Facts → Message
held_message epoch from m f = answer_to kind.Held epoch from m 0 (facts_text f)

abbrev pub busy_message : ℕ → ℕ → Message → ℕ → Message
busy_message epoch from m holder = answer_to kind.HoldBusy epoch from m holder []

abbrev pub synced_message : ℕ → ℕ → Message → Message
synced_message epoch from m = answer_to kind.Synced epoch from m 0 []

abbrev pub executed_message : ℕ → ℕ → Message → Message
executed_message epoch from m = answer_to kind.Executed epoch from m 0 []

abbrev pub released_message : ℕ → ℕ → Message → Message
released_message epoch from m = answer_to kind.Released epoch from m 0 []

-- what tells of batches is of no request
abbrev pub batch_message : MessageKind → ℕ → ℕ → ℕ → ℕ → Message
batch_message k epoch from to value = record { kind = k; epoch = epoch; from = from; to = to; number = 0; attempt = 0; ask = 0; value = value; body = [] }

-- the records of the master that it goes to are stable here up to this batch
abbrev pub stable_message : ℕ → ℕ → ℕ → ℕ → Message
stable_message epoch from to batch = batch_message kind.Stable epoch from to batch

-- the records of its sender are stable everywhere up to this batch
abbrev pub cancel_message : ℕ → ℕ → ℕ → ℕ → Message
cancel_message epoch from to mark = batch_message kind.Cancel epoch from to mark
