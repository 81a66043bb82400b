-- The fields of a message, in the order in which they are judged.
use Rattle.std.specs.Prelude.{ℕ, ◌+◌, Bool, true, ◌==◌, nat_le, nat_lt, if◌then◌else◌, List, length, Option, Some, None}
use Rattle.std.specs.Int.{w16, w32, w64}
use Rattle.byte_grammar.specs.declared.verdict.Reason.TheVariants.{BadMagic, BadType, BadCount, BadLength, BadValue}
use Rattle.byte_grammar.specs.declared.verdict.Verdict.{Verdict}
use Rattle.byte_grammar.specs.declared.verdict.Verdict.TheVariants.{More, Done, Refused}
use Rattle.byte_grammar.specs.Grammar.{Grammar, judge}
use Rattle.byte_grammar.specs.Grammar.Grammar.{Ends, Field}
use Rattle.byte_grammar.specs.Numbers.{worth}
use Rattle.byte_grammar.specs.Fields.{refuse, number, nothing}
use Rattle.out_update.specs.declared.update.Kind.{Kind}
use Rattle.out_update.specs.Types.{is_read}
use Rattle.out_update.specs.Types as updates
use Rattle.out_update.specs.Spelling.{request_magic}
use Rattle.out_update.specs.Reading.{at_head}
use Rattle.out_update.specs.Replies.{reply_then}
use Rattle.update_record.specs.declared.message.MessageKind.{MessageKind}
use Rattle.update_record.specs.declared.message.MessageKind.TheVariants as kind
use Rattle.update_record.specs.declared.head.Head.{Head}
use Rattle.update_record.specs.Messages.{message_magic, kind_at, has_epoch, has_number, has_attempt, has_ask, has_value, has_body, or_zero, is_sender}
use Rattle.update_record.specs.MessageValues.{head_at}
use Rattle.update_record.specs.Decoding.{judge_record, refused}

-- ---- the head: what stands in front of the body

unfoldable pub at_size : MessageKind → Grammar
at_size k = number w32 BadLength (or_zero (has_body k)) (λ _. nothing 4 Ends)

unfoldable pub at_value : MessageKind → Grammar
at_value k = number w64 BadValue (or_zero (has_value k)) (λ _. at_size k)

unfoldable pub at_ask : MessageKind → Grammar
at_ask k = number w32 BadValue (or_zero (has_ask k)) (λ _. nothing 4 (at_value k))

unfoldable pub at_attempt : MessageKind → Grammar
at_attempt k = number w64 BadValue (or_zero (has_attempt k)) (λ _. at_ask k)

unfoldable pub at_number : MessageKind → Grammar
at_number k = number w32 BadValue (or_zero (has_number k)) (λ _. at_attempt k)

unfoldable pub at_receiver : MessageKind → Grammar
at_receiver k = number w32 BadValue (λ n. nat_le n 15) (λ _. at_number k)

unfoldable pub at_sender : MessageKind → Grammar
at_sender k = number w32 BadValue is_sender (λ _. at_receiver k)

unfoldable pub at_epoch : MessageKind → Grammar
at_epoch k = number w32 BadValue (or_zero (has_epoch k)) (λ _. at_sender k)

abbrev pub by_kind : Option MessageKind → ℕ → Grammar
by_kind None place = refuse place BadType
by_kind (Some k) place = at_epoch k

unfoldable pub at_kind : Grammar
at_kind = Field 4 (λ place bytes. by_kind (kind_at (worth w32 bytes)) place)

unfoldable pub whole_head : Grammar
whole_head = number w32 BadMagic (λ n. n == message_magic) (λ _. at_kind)

-- ---- a request of one question or none

abbrev pub by_question : Option Kind → ℕ → Grammar
by_question None place = refuse place BadType
by_question (Some k) place = if is_read k then at_head None k Ends else refuse place BadValue

unfoldable pub at_question : Grammar
at_question = Field 2 (λ place bytes. by_question (updates.kind_at (worth w16 bytes)) place)

abbrev pub at_questions : ℕ → Grammar
at_questions n = if n == 0 then Ends else at_question

unfoldable pub at_question_count : Grammar
at_question_count = number w16 BadCount (λ n. nat_le n 1) (λ n. nothing 2 (at_questions n))

unfoldable pub whole_question : Grammar
whole_question = number w32 BadMagic (λ n. n == request_magic) (λ _. at_question_count)

-- ---- facts

-- without a writer there are no targets of it
abbrev pub is_target_set : ℕ → ℕ → Bool
is_target_set writer set = if writer == 0 then set == 0 else nat_lt set 65536

unfoldable pub at_targets : ℕ → Grammar
at_targets writer = number w32 BadValue (is_target_set writer) (λ _. reply_then Ends)

unfoldable pub at_writer : Grammar
at_writer = number w32 BadValue (λ _. true) (λ n. at_targets n)

unfoldable pub at_clock : Grammar
at_clock = number w64 BadValue (λ _. true) (λ _. at_writer)

unfoldable pub whole_facts : Grammar
whole_facts = number w64 BadValue (λ _. true) (λ _. at_clock)

-- the verdict on the bytes of facts; their reply may have 24,576 bytes
abbrev pub judge_facts : List ℕ → Verdict
judge_facts bytes = judge 24600 whole_facts 0 bytes

-- ---- the whole message

-- The verdict on a body is counted from the message's start. Its length is judged behind it, and stands at
-- byte 48.
abbrev pub measured : ℕ → Verdict → Verdict
measured size More = More
measured size (Done end) = if end == size then Done (56 + end) else refused 48 BadLength
measured size (Refused refusal) = refused (56 + refusal.place) refusal.reason

-- a body by its own grammar and its own limit; the reply of a Held may have 24,576 bytes
abbrev pub judge_body : MessageKind → ℕ → List ℕ → Verdict
judge_body kind.Request size rest = if nat_lt (length rest) size then More else Done (56 + size)
judge_body kind.Hold size rest = measured size (judge 24576 whole_question 0 rest)
judge_body kind.Held size rest = measured size (judge 24600 whole_facts 0 rest)
judge_body kind.Execute size rest = measured size (judge_record rest)
judge_body _ size rest = Done 56

-- the head first, and where it is whole the body behind it
abbrev pub judge_behind : Verdict → Option (Head × List ℕ) → Verdict
judge_behind (Done end) (Some found) = judge_body found.0.kind found.0.size found.1
judge_behind (Done end) None = More
judge_behind head found = head

-- the verdict on the bytes of a message
abbrev pub judge_message : List ℕ → Verdict
judge_message bytes = judge_behind (judge 56 whole_head 0 bytes) (head_at bytes)
