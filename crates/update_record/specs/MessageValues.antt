-- The message that bytes spell, where they spell one. Nothing is judged here.
use Rattle.std.specs.Prelude.{ℕ, List, Option, Some}
use Rattle.std.specs.Int.{w32, w64}
use Rattle.byte_grammar.specs.Values.{◌>>=◌, part_at, number_at}
use Rattle.out_update.specs.Values.{front}
use Rattle.update_record.specs.declared.message.Message.{Message}
use Rattle.update_record.specs.declared.head.Head.{Head}
use Rattle.update_record.specs.Messages.{kind_at}

-- a head, and the bytes behind it
unfoldable pub head_at : List ℕ → Option (Head × List ℕ)
head_at bytes = do
  magic ← part_at 4 bytes
  code ← number_at w32 magic.1
  kind ← kind_at code.0
  epoch ← number_at w32 code.1
  sender ← number_at w32 epoch.1
  receiver ← number_at w32 sender.1
  number ← number_at w32 receiver.1
  attempt ← number_at w64 number.1
  ask ← number_at w32 attempt.1
  space ← part_at 4 ask.1
  value ← number_at w64 space.1
  size ← number_at w32 value.1
  end ← part_at 4 size.1
  Some (record { kind = kind; epoch = epoch.0; from = sender.0; to = receiver.0; number = number.0; attempt = attempt.0; ask = ask.0; value = value.0; size = size.0 }, end.1)

-- a message, and the bytes behind it
unfoldable pub message_at : List ℕ → Option (Message × List ℕ)
message_at bytes = do
  head ← head_at bytes
  body ← part_at head.0.size head.1
  let h = head.0 in Some (record { kind = h.kind; epoch = h.epoch; from = h.from; to = h.to; number = h.number; attempt = h.attempt; ask = h.ask; value = h.value; body = body.0 }, body.1)

abbrev pub message_value : List ℕ → Option Message
message_value bytes = front (message_at bytes)
