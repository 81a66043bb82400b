-- The reasons that messages are refused for.
use Rattle.std.proofs.Common.{◌≡◌, ℕ, ◌+◌, Bool, true, false, ◌==◌, if◌then◌else◌, List, length, Option, Some, None, refl, sym, ap, ◌∙◌}
use Rattle.std.specs.Prelude.{nat_le, nat_lt}
use Rattle.std.specs.Int.{w16, w32, w64}
use Rattle.byte_grammar.specs.declared.verdict.Reason.TheVariants as reason
use Rattle.byte_grammar.specs.declared.verdict.Refusal.{Refusal}
use Rattle.byte_grammar.specs.declared.verdict.Verdict.{Verdict}
use Rattle.byte_grammar.specs.declared.verdict.Verdict.TheVariants as verdict
use Rattle.byte_grammar.specs.Grammar.{Grammar, judge, Only}
use Rattle.byte_grammar.specs.Grammar.Grammar.{Ends}
use Rattle.byte_grammar.specs.Numbers.{worth}
use Rattle.byte_grammar.specs.Fields.{nothing}
use Rattle.byte_grammar.proofs.Reasons.{named_reason, if_only, number_only, nothing_only}
use Rattle.out_update.specs.declared.update.Kind.{Kind}
use Rattle.out_update.specs.Types.{is_read}
use Rattle.out_update.specs.Types as updates
use Rattle.out_update.specs.Spelling.{request_magic}
use Rattle.out_update.specs.Reading.{at_head}
use Rattle.out_update.specs.Replies.{reply_then}
use Rattle.out_update.specs.Decoding.{is_update_reason}
use Rattle.out_update.proofs.Reasons.{head_only, reply_only, ends_only}
use Rattle.update_record.specs.declared.head.Head.{Head}
use Rattle.update_record.specs.declared.message.MessageKind.{MessageKind}
use Rattle.update_record.specs.declared.message.MessageKind.TheVariants as kind
use Rattle.update_record.specs.Reading.{whole_record}
use Rattle.update_record.specs.Decoding.{refused}
use Rattle.update_record.specs.Messages.{message_magic, kind_at, has_epoch, has_number, has_attempt, has_ask, has_value, has_body, or_zero, is_sender}
use Rattle.update_record.specs.MessageReading.{at_size, at_value, at_ask, at_attempt, at_number, at_receiver, at_sender, at_epoch, by_kind, at_kind, whole_head, by_question, at_question, at_questions, at_question_count, whole_question, is_target_set, at_targets, at_writer, at_clock, whole_facts, measured, judge_body, judge_behind, judge_message}
use Rattle.update_record.specs.MessageValues.{head_at}
use Rattle.update_record.proofs.Reasons.{record_reason}

abbrev Mine : Grammar → Type 0
Mine g = Only is_update_reason g

back_only : (k : MessageKind) → Mine (at_ask k)
unfolding at_ask at_value at_size
back_only k =
    let last = nothing_only is_update_reason 4 Ends refl ends_only in
    let size = number_only is_update_reason w32 reason.BadLength (or_zero (has_body k)) (λ _. nothing 4 Ends) refl (λ _. last) in
    let value = number_only is_update_reason w64 reason.BadValue (or_zero (has_value k)) (λ _. at_size k) refl (λ _. size) in
    number_only is_update_reason w32 reason.BadValue (or_zero (has_ask k)) (λ _. nothing 4 (at_value k)) refl (λ _. nothing_only is_update_reason 4 (at_value k) refl value)

epoch_only : (k : MessageKind) → Mine (at_epoch k)
unfolding at_epoch at_sender at_receiver at_number at_attempt
epoch_only k =
    let attempt = number_only is_update_reason w64 reason.BadValue (or_zero (has_attempt k)) (λ _. at_ask k) refl (λ _. back_only k) in
    let n = number_only is_update_reason w32 reason.BadValue (or_zero (has_number k)) (λ _. at_attempt k) refl (λ _. attempt) in
    let receiver = number_only is_update_reason w32 reason.BadValue (λ m. nat_le m 15) (λ _. at_number k) refl (λ _. n) in
    let sender = number_only is_update_reason w32 reason.BadValue is_sender (λ _. at_receiver k) refl (λ _. receiver) in
    number_only is_update_reason w32 reason.BadValue (or_zero (has_epoch k)) (λ _. at_sender k) refl (λ _. sender)

kind_only : (o : Option MessageKind) (place : ℕ) → Mine (by_kind o place)
unfolding Only
kind_only None place = refl
kind_only (Some k) place = epoch_only k

whole_head_only : Mine whole_head
unfolding whole_head at_kind Only
whole_head_only = number_only is_update_reason w32 reason.BadMagic (λ n. n == message_magic) (λ _. at_kind) refl (λ _ place bytes. kind_only (kind_at (worth w32 bytes)) place)

asked_only : (o : Option Kind) (place : ℕ) → Mine (by_question o place)
unfolding Only
asked_only None place = refl
asked_only (Some k) place = if_only is_update_reason (is_read k) (at_head None k Ends) place reason.BadValue refl (head_only None k Ends ends_only)

questions_only : (b : Bool) → Mine (if b then Ends else at_question)
unfolding at_question Only
questions_only true = ends_only
questions_only false = λ place bytes. asked_only (updates.kind_at (worth w16 bytes)) place

question_only : Mine whole_question
unfolding whole_question at_question_count
question_only =
    let count = number_only is_update_reason w16 reason.BadCount (λ n. nat_le n 1) (λ n. nothing 2 (at_questions n)) refl (λ n. nothing_only is_update_reason 2 (at_questions n) refl (questions_only (n == 0))) in
    number_only is_update_reason w32 reason.BadMagic (λ n. n == request_magic) (λ _. at_question_count) refl (λ _. count)

facts_only : Mine whole_facts
unfolding whole_facts at_clock at_writer at_targets
facts_only =
    let targets : (n : ℕ) → Mine (at_targets n) = λ n. number_only is_update_reason w32 reason.BadValue (is_target_set n) (λ _. reply_then Ends) refl (λ _. reply_only Ends ends_only) in
    let writer = number_only is_update_reason w32 reason.BadValue (λ _. true) (λ n. at_targets n) refl targets in
    let clock = number_only is_update_reason w64 reason.BadValue (λ _. true) (λ _. at_writer) refl (λ _. writer) in
    number_only is_update_reason w64 reason.BadValue (λ _. true) (λ _. at_clock) refl (λ _. clock)

pub facts_reason : (bytes : List ℕ) (r : Refusal) → judge 24600 whole_facts 0 bytes ≡ verdict.Refused r → is_update_reason r.reason ≡ true
facts_reason bytes r e = named_reason is_update_reason 24600 whole_facts 0 bytes r refl facts_only e

reason_of : (r s : Refusal) → verdict.Refused r ≡ verdict.Refused s → r.reason ≡ s.reason
reason_of r s e = cc

abbrev Known : Verdict → Type 0
Known v = (r : Refusal) → v ≡ verdict.Refused r → is_update_reason r.reason ≡ true

of_size : (b : Bool) (k : ℕ) → Known (if b then verdict.Done k else refused 48 reason.BadLength)
of_size true k r e = absurd cc
of_size false k r e = ap is_update_reason (sym (reason_of _ r e))

measured_known : (size : ℕ) (v : Verdict) → Known v → Known (measured size v)
measured_known size verdict.More h r e = absurd cc
measured_known size (verdict.Done k) h r e = of_size (k == size) (56 + k) r e
measured_known size (verdict.Refused s) h r e = ap is_update_reason (sym (reason_of _ r e)) ∙ h s refl

text_known : (b : Bool) (k : ℕ) → Known (if b then verdict.More else verdict.Done k)
text_known true k r e = absurd cc
text_known false k r e = absurd cc

body_known : (k : MessageKind) (size : ℕ) (rest : List ℕ) → Known (judge_body k size rest)
body_known kind.Request size rest r e = text_known (nat_lt (length rest) size) (56 + size) r e
body_known kind.Hold size rest r e = measured_known size (judge 24576 whole_question 0 rest) (λ s d. named_reason is_update_reason 24576 whole_question 0 rest s refl question_only d) r e
body_known kind.Held size rest r e = measured_known size (judge 24600 whole_facts 0 rest) (λ s d. named_reason is_update_reason 24600 whole_facts 0 rest s refl facts_only d) r e
body_known kind.Execute size rest r e = measured_known size (judge 24576 whole_record 0 rest) (λ s d. record_reason rest s d) r e
body_known _ size rest r e = absurd cc

behind_known : (v : Verdict) (o : Option (Head × List ℕ)) → Known v → Known (judge_behind v o)
behind_known verdict.More o h r e = absurd cc
behind_known (verdict.Done k) None h r e = absurd cc
behind_known (verdict.Done k) (Some x) h r e = body_known x.0.kind x.0.size x.1 r e
behind_known (verdict.Refused s) o h r e = h r e

pub message_reason : (bytes : List ℕ) (r : Refusal) → judge_message bytes ≡ verdict.Refused r → is_update_reason r.reason ≡ true
message_reason bytes r e = behind_known (judge 56 whole_head 0 bytes) (head_at bytes) (λ s d. named_reason is_update_reason 56 whole_head 0 bytes s refl whole_head_only d) r e
