-- The messages that were sent, numbered from 1.
use Rattle.std.specs.Prelude.{ℕ, ◌+◌, ◌-◌, Bool, false, true, not, ◌&&◌, if◌then◌else◌, List, [], ◌∷◌, length, slice_index_or, slice_set, sum_by, Option, Some, None}
use Rattle.update_record.specs.declared.message.Message.{Message}
use Rattle.update_record.specs.declared.message.MessageKind.TheVariants as kind
use Rattle.update_record.specs.Messages.{message_text}

-- a message that was sent, and what became of it
pub record Sent : Type 0 where
  pub message : Message
  pub delivered : Bool
  pub dropped : Bool

-- a message that was just sent
abbrev pub fresh : Message → Sent
fresh m = record { message = m; delivered = false; dropped = false }

-- what stands beyond the last number
abbrev pub no_message : Message
no_message = record { kind = kind.Release; epoch = 0; from = 0; to = 0; number = 0; attempt = 0; ask = 0; value = 0; body = [] }

-- what was sent with this number
abbrev pub sent_at : List Sent → ℕ → Sent
sent_at sent k = slice_index_or sent (k - 1) (fresh no_message)

-- the message with this number
abbrev pub message_of : List Sent → ℕ → Message
message_of sent k = (sent_at sent k).message

abbrev pub mark_delivered : List Sent → ℕ → List Sent
mark_delivered sent k = slice_set sent (k - 1) (record (sent_at sent k) { delivered = true })

abbrev pub mark_dropped : List Sent → ℕ → List Sent
mark_dropped sent k = slice_set sent (k - 1) (record (sent_at sent k) { dropped = true })

-- whether it is to be delivered
abbrev pub waits : Sent → Bool
waits s = not s.delivered && not s.dropped

-- the least number of a message that is to be delivered, where the first of the list has this number
abbrev pub next_of : ℕ → List Sent → Option ℕ
next_of k [] = None
next_of k (s ∷ ss) = if waits s then Some k else next_of (k + 1) ss

-- how many bytes the messages have altogether
abbrev pub size_of : List Sent → ℕ
size_of sent = sum_by (λ s. length (message_text s.message)) sent
