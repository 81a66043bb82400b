-- Where a reader of a message's head, of a question or of facts stands, and what is still to come there.
use Rattle.std.specs.Prelude.{ℕ, Bool, true, false}
use Rattle.byte_grammar.specs.Grammar.{Grammar}
use Rattle.byte_grammar.specs.Grammar.Grammar.{Ends}
use Rattle.byte_grammar.specs.Fields.{nothing}
use Rattle.out_update.specs.Positions.{at_alone, rank_of, at_reply_alone, reply_rank}
use Rattle.update_record.specs.declared.head.HeadPosition.{HeadPosition}
use Rattle.update_record.specs.declared.head.HeadPosition.TheVariants as at
use Rattle.update_record.specs.declared.question.QuestionPosition.{QuestionPosition}
use Rattle.update_record.specs.declared.question.QuestionPosition.TheVariants as ask
use Rattle.update_record.specs.declared.facts.FactsPosition.{FactsPosition}
use Rattle.update_record.specs.declared.facts.FactsPosition.TheVariants as facts
use Rattle.update_record.specs.MessageReading.{at_size, at_value, at_ask, at_attempt, at_number, at_receiver, at_sender, at_epoch, at_kind, whole_head, at_question, at_questions, at_question_count, whole_question, at_targets, at_writer, at_clock, whole_facts}

abbrev pub at_message : HeadPosition → Grammar
at_message at.Magic = whole_head
at_message at.Kind = at_kind
at_message (at.Epoch k) = at_epoch k
at_message (at.Sender k) = at_sender k
at_message (at.Receiver k) = at_receiver k
at_message (at.Number k) = at_number k
at_message (at.Attempt k) = at_attempt k
at_message (at.Ask k) = at_ask k
at_message (at.Reserved k) = nothing 4 (at_value k)
at_message (at.Value k) = at_value k
at_message (at.Size k) = at_size k
at_message at.Last = nothing 4 Ends
at_message at.End = Ends

-- fields that are read together
abbrev pub is_address : HeadPosition → Bool
is_address at.Magic = true
is_address at.Kind = true
is_address (at.Epoch k) = true
is_address (at.Sender k) = true
is_address (at.Receiver k) = true
is_address _ = false

abbrev pub at_ask_of : QuestionPosition → Grammar
at_ask_of ask.Magic = whole_question
at_ask_of ask.Count = at_question_count
at_ask_of (ask.Reserved n) = nothing 2 (at_questions n)
at_ask_of ask.Type = at_question
at_ask_of (ask.Inside r) = at_alone r

abbrev pub ask_rank : QuestionPosition → ℕ
ask_rank (ask.Inside r) = rank_of r
ask_rank _ = 0

abbrev pub at_facts : FactsPosition → Grammar
at_facts facts.Load = whole_facts
at_facts facts.Clock = at_clock
at_facts facts.Writer = at_writer
at_facts (facts.Targets w) = at_targets w
at_facts (facts.Inside r) = at_reply_alone r

abbrev pub facts_rank : FactsPosition → ℕ
facts_rank (facts.Inside r) = reply_rank r
facts_rank _ = 0
