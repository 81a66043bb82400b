-- Messages, and the one spelling of each.
use Rattle.std.specs.Prelude.{◌≡◌, ℕ, ◌^◌, ◌<◌, ◌≤◌, Bool, true, false, ◌==◌, ◌&&◌, ◌||◌, nat_le, if◌then◌else◌, List, [], ◌∷◌, ◌++◌, length, Option, Some, None}
use Rattle.std.specs.List.{AllByRecursion}
use Rattle.std.specs.Int.{w32, w64}
use Rattle.byte_grammar.specs.Numbers.{word, zeros}
use Rattle.out_update.specs.declared.update.Update.{Update}
use Rattle.out_update.specs.Types.{is_read}
use Rattle.out_update.specs.Spelling.{request_text, FitsRequest}
use Rattle.out_update.specs.Replies.{reply_text, FitsReply}
use Rattle.update_record.specs.declared.message.Facts.{Facts}
use Rattle.update_record.specs.declared.message.Message.{Message}
use Rattle.update_record.specs.declared.message.MessageKind.{MessageKind}
use Rattle.update_record.specs.declared.message.MessageKind.TheVariants as kind
use Rattle.update_record.specs.declared.operation.Record.{Record}
use Rattle.update_record.specs.Spelling.{spells_record}

-- ---- the table of kinds

abbrev pub code_of : MessageKind → ℕ
code_of kind.Request = 1
code_of kind.Hold = 2
code_of kind.Held = 3
code_of kind.HoldBusy = 4
code_of kind.Sync = 5
code_of kind.Synced = 6
code_of kind.Execute = 7
code_of kind.Executed = 8
code_of kind.Release = 9
code_of kind.Released = 10
code_of kind.Stable = 11
code_of kind.Cancel = 12

abbrev pub kinds : List MessageKind
kinds =
    kind.Request ∷ kind.Hold ∷ kind.Held ∷ kind.HoldBusy ∷ kind.Sync ∷ kind.Synced ∷ kind.Execute ∷ kind.Executed ∷ kind.Release ∷ kind.Released ∷ kind.Stable ∷ kind.Cancel ∷ []

abbrev pub first_with : ℕ → List MessageKind → Option MessageKind
first_with n [] = None
first_with n (k ∷ ks) = if code_of k == n then Some k else first_with n ks

-- the kind with this number
unfoldable pub kind_at : ℕ → Option MessageKind
kind_at n = first_with n kinds

-- a request of a client comes in no epoch
abbrev pub has_epoch : MessageKind → Bool
has_epoch kind.Request = false
has_epoch _ = true

-- a Stable and a Cancel are of no request
abbrev pub has_number : MessageKind → Bool
has_number kind.Stable = false
has_number kind.Cancel = false
has_number _ = true

-- these and a Request are of no attempt
abbrev pub has_attempt : MessageKind → Bool
has_attempt kind.Request = false
has_attempt kind.Stable = false
has_attempt kind.Cancel = false
has_attempt _ = true

-- what asks and what answers an ask
abbrev pub has_ask : MessageKind → Bool
has_ask kind.Hold = true
has_ask kind.Held = true
has_ask kind.HoldBusy = true
has_ask kind.Sync = true
has_ask kind.Synced = true
has_ask _ = false

-- the holder, the writer, the batch, the mark
abbrev pub has_value : MessageKind → Bool
has_value kind.HoldBusy = true
has_value kind.Sync = true
has_value kind.Stable = true
has_value kind.Cancel = true
has_value _ = false

-- an operation's text, a question, facts, a record
abbrev pub has_body : MessageKind → Bool
has_body kind.Request = true
has_body kind.Hold = true
has_body kind.Held = true
has_body kind.Execute = true
has_body _ = false

-- a number that a message without it has as 0
abbrev pub or_zero : Bool → ℕ → Bool
or_zero has n = has || (n == 0)

-- a target, or 256 more than a client
abbrev pub is_sender : ℕ → Bool
is_sender n = nat_le n 15 || (nat_le 256 n && nat_le n 319)

-- ---- bodies

-- the body of a Hold: a request of one question or none
abbrev pub AsksOne : List Update → Type 0
AsksOne us = (length us ≤ 1) × AllByRecursion (λ u. is_read u.kind ≡ true) us

abbrev pub spells_question : List Update → List ℕ → Type 0
spells_question us bytes = (FitsRequest us × AsksOne us) × (bytes ≡ request_text us)

-- the number of the last writer, and the set of its targets; two zeros where there is none
abbrev pub writer_number : Option (ℕ × ℕ) → ℕ
writer_number None = 0
writer_number (Some w) = w.0

abbrev pub writer_targets : Option (ℕ × ℕ) → ℕ
writer_targets None = 0
writer_targets (Some w) = w.1

abbrev pub FitsWriter : Option (ℕ × ℕ) → Type 0
FitsWriter None = Unit {0}
FitsWriter (Some w) = (1 ≤ w.0) × (w.0 < 2 ^ 32) × (w.1 < 65536)

-- the body of a Held: load, clock, writer, its targets, and the reply
abbrev pub facts_text : Facts → List ℕ
facts_text f = word w64 f.load ++ (word w64 f.clock ++ (word w32 (writer_number f.writer) ++ (word w32 (writer_targets f.writer) ++ reply_text f.reply)))

pub record FitsFacts (f : Facts) : Type 0 where
  pub load : f.load < 2 ^ 64
  pub clock : f.clock < 2 ^ 64
  pub writer : FitsWriter f.writer
  pub reply : FitsReply f.reply

abbrev pub spells_facts : Facts → List ℕ → Type 0
spells_facts f bytes = FitsFacts f × (bytes ≡ facts_text f)

-- what a message of this kind carries; the text of an operation is not judged here
abbrev pub FitsBody : MessageKind → List ℕ → Type 0
FitsBody kind.Request body = Unit {0}
FitsBody kind.Hold body = (us : List Update) × spells_question us body
FitsBody kind.Held body = (f : Facts) × spells_facts f body
FitsBody kind.Execute body = (r : Record) × spells_record r body
FitsBody _ body = body ≡ []

-- ---- a message

abbrev pub message_magic : ℕ
message_magic = 0x4d4e4531

-- magic, kind, epoch, sender, receiver, number and attempt
abbrev pub address_text : Message → List ℕ
address_text m = word w32 message_magic ++ (word w32 (code_of m.kind) ++ (word w32 m.epoch ++ (word w32 m.from ++ (word w32 m.to ++ (word w32 m.number ++ word w64 m.attempt)))))

-- ask, zeros, value, length of the body, and zeros
abbrev pub content_text : Message → List ℕ
content_text m = word w32 m.ask ++ (zeros 4 ++ (word w64 m.value ++ (word w32 (length m.body) ++ zeros 4)))

abbrev pub message_text : Message → List ℕ
message_text m = address_text m ++ (content_text m ++ m.body)

-- Each message that this system sends is so.
pub record FitsMessage (m : Message) : Type 0 where
  pub epoch : m.epoch < 2 ^ 32
  pub epoch_fits : or_zero (has_epoch m.kind) m.epoch ≡ true
  pub sender : is_sender m.from ≡ true
  pub receiver : m.to ≤ 15
  pub number : m.number < 2 ^ 32
  pub number_fits : or_zero (has_number m.kind) m.number ≡ true
  pub attempt : m.attempt < 2 ^ 64
  pub attempt_fits : or_zero (has_attempt m.kind) m.attempt ≡ true
  pub ask : m.ask < 2 ^ 32
  pub ask_fits : or_zero (has_ask m.kind) m.ask ≡ true
  pub value : m.value < 2 ^ 64
  pub value_fits : or_zero (has_value m.kind) m.value ≡ true
  pub size : length m.body < 2 ^ 32
  pub body : FitsBody m.kind m.body

-- the bytes are the message's spelling
abbrev pub spells_message : Message → List ℕ → Type 0
spells_message m bytes = FitsMessage m × (bytes ≡ message_text m)
