-- How the messages are kept: as bytes, with the index before which none waits, and the sum of their lengths.
use Rattle.std.specs.Prelude.{◌≡◌, ◌≤◌, ◌<◌, ◌^◌, ℕ, false, List, [], map, take, length, All, unwrap_or}
use Rattle.update_record.specs.declared.message.Message.{Message}
use Rattle.update_record.specs.Messages.{FitsMessage, message_text}
use Rattle.update_record.specs.MessageValues.{message_value}
use Rattle.cluster_mail.specs.declared.mail.Kept.{Kept}
use Rattle.cluster_mail.specs.Mail.{Sent, no_message, waits, size_of}

-- the message that bytes spell
abbrev pub spelled : List ℕ → Message
spelled bytes = unwrap_or (message_value bytes) no_message

abbrev pub seen : Kept → Sent
seen k = record { message = spelled k.bytes; delivered = k.delivered; dropped = k.dropped }

-- the bytes are a message's spelling
pub record IsSpelled (k : Kept) : Type 0 where
  pub fits : FitsMessage (spelled k.bytes)
  pub text : k.bytes ≡ message_text (spelled k.bytes)

pub record AreKept (items : List Kept) (first bytes : ℕ) : Type 0 where
  pub all : All IsSpelled items
  pub few : length items < 2 ^ 32
  pub begins : first ≤ length items
  pub past : All (λ s. waits s ≡ false) (take first (map seen items))
  pub size : bytes ≡ size_of (map seen items)
