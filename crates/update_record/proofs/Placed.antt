-- A field is refused at a place up to the limit.
use Rattle.std.proofs.Common.{◌≡◌, ℕ, zero, suc, ◌+◌, ◌≤◌, ◌<◌, Bool, true, false, ◌==◌, ◌||◌, ◌&&◌, if◌then◌else◌, List, [], ◌∷◌, length, take, drop, Option, Some, None, refl, sym, subst, ◌∙◌, arith, inl, inr}
use Rattle.std.specs.Prelude.{nat_le}
use Rattle.std.specs.Option.{option_map}
use Rattle.std.specs.Int.{Width, w16, w32, w64}
use Rattle.std.proofs.lemmas.Bool.{cases_lt}
use Rattle.std.proofs.lemmas.List.{length-take-le}
use Rattle.byte_grammar.specs.declared.verdict.Reason.{Reason}
use Rattle.byte_grammar.specs.declared.verdict.Reason.TheVariants as reason
use Rattle.byte_grammar.specs.declared.verdict.Refusal.{Refusal}
use Rattle.byte_grammar.specs.declared.verdict.Verdict.TheVariants.{Refused}
use Rattle.byte_grammar.specs.Grammar.{Grammar, judge}
use Rattle.byte_grammar.specs.Grammar.Grammar.{Ends, Refuses, Field}
use Rattle.byte_grammar.specs.Numbers.{worth, first_set, padding}
use Rattle.byte_grammar.specs.Fields.{number, refuse, unless_bad, nothing, anything}
use Rattle.byte_grammar.proofs.Judging.{field_long, field_short, field_reads}
use Rattle.out_update.specs.declared.update.Kind.{Kind}
use Rattle.out_update.specs.declared.shape.Shape.{Shape}
use Rattle.out_update.specs.declared.shape.Shape.TheVariants as shape
use Rattle.out_update.specs.declared.shape.BodyField.{BodyField}
use Rattle.out_update.specs.Types.{kind_at, shapes, allows, may_stand, batch_fits, is_read}
use Rattle.out_update.specs.Bodies.{width_of, may_be, kind_after, count_after, body_fields}
use Rattle.out_update.specs.Names.{name_fault, first_bad, is_dots}
use Rattle.out_update.specs.Spelling.{request_magic}
use Rattle.out_update.specs.Reading.{at_body, at_name, at_content, at_param, at_params, at_fid, at_batch, at_flags, at_head, by_kind, at_update, at_updates, at_count, request_then}
use Rattle.out_update.specs.Replies.{reply_magic, is_code, at_length, at_result, at_results, at_reply_count, reply_then}
use Rattle.update_record.specs.Spelling.{record_magic}
use Rattle.update_record.specs.Reading as records
use Rattle.update_record.specs.Reading.{at_end, length_was, at_parts, at_code, at_client, at_stamp, at_number, at_master, at_epoch, whole_record}
use Rattle.update_record.specs.MessageReading.{by_question, at_question, at_questions, at_question_count, whole_question, is_target_set, at_targets, at_writer, at_clock, whole_facts}

unfoldable pub Placed : ℕ → Grammar → Type 0
Placed l Ends = Unit {0}
Placed l (Refuses r) = r.place ≤ l
Placed l (Field w next) = (place : ℕ) (bytes : List ℕ) → place + w ≤ l → length bytes ≡ w → Placed l (next place bytes)

same_place : (r s : Refusal) → Refused r ≡ Refused s → r.place ≡ s.place
same_place r s e = cc

pub refused_within : (l : ℕ) (g : Grammar) (p : ℕ) (xs : List ℕ) (r : Refusal) → p ≤ l → Placed l g → judge l g p xs ≡ Refused r → r.place ≤ l
unfolding judge Placed
refused_within l Ends p xs r le h e = absurd cc
refused_within l (Refuses s) p xs r le h e = let x = same_place s r e in omega arith
refused_within l (Field w next) p xs r le h e =
    elim (cases_lt l (p + w)) as (λ _. r.place ≤ l) [
      | inl long ↦ let x = same_place _ r (sym (field_long l w next p xs long) ∙ e) in omega arith
      | inr fits ↦ elim (cases_lt (length xs) w) as (λ _. r.place ≤ l) [
        | inl short ↦ absurd (let x = sym e ∙ field_short l w next p xs fits short in cc)
        | inr there ↦ refused_within l (next p (take w xs)) (p + w) (drop w xs) r fits (h p (take w xs) fits (length-take-le w xs there)) (sym (field_reads l w next p xs fits there) ∙ e)
      ]
    ]

-- ---- fields

if_placed : (l : ℕ) (b : Bool) (next : Grammar) (place : ℕ) (why : Reason) → place ≤ l → Placed l next → Placed l (if b then next else refuse place why)
unfolding Placed
if_placed l true next place why le h = h
if_placed l false next place why le h = le

number_placed : (l : ℕ) (w : Width) (why : Reason) (test : ℕ → Bool) (next : ℕ → Grammar) → ((n : ℕ) → Placed l (next n)) → Placed l (number w why test next)
unfolding Placed
number_placed l w why test next h = λ place bytes fits len. if_placed l (test (worth w bytes)) (next (worth w bytes)) place why (omega arith) (h (worth w bytes))

abbrev IsInside : ℕ → Option ℕ → Type 0
IsInside n None = Unit {0}
IsInside n (Some i) = i < n

one_further : (n : ℕ) (o : Option ℕ) → IsInside n o → IsInside (suc n) (option_map (λ i. suc i) o)
one_further n None h = tt
one_further n (Some i) h = omega arith

set_inside : (bytes : List ℕ) → IsInside (length bytes) (first_set bytes)
set_inside [] = tt
set_inside (zero ∷ bytes) = one_further (length bytes) (first_set bytes) (set_inside bytes)
set_inside (suc b ∷ bytes) = omega arith

bad_by : (b : Bool) (bytes : List ℕ) → IsInside (length bytes) (first_bad bytes) → IsInside (suc (length bytes)) (if b then Some 0 else option_map (λ i. suc i) (first_bad bytes))
bad_by true bytes h = omega arith
bad_by false bytes h = one_further (length bytes) (first_bad bytes) h

bad_inside : (bytes : List ℕ) → IsInside (length bytes) (first_bad bytes)
bad_inside [] = tt
bad_inside (b ∷ bytes) = bad_by ((b == 0) || (b == 0x2f)) bytes (bad_inside bytes)

name_by : (b : Bool) (bytes : List ℕ) → is_dots bytes ≡ b → IsInside (length bytes) (if b then Some 0 else first_bad bytes)
name_by true [] e = absurd cc
name_by true (b ∷ bytes) e = omega arith
name_by false bytes e = bad_inside bytes

unless_placed : (l : ℕ) (o : Option ℕ) (place n : ℕ) (why : Reason) (next : Grammar) → place + n ≤ l → IsInside n o → Placed l next → Placed l (unless_bad o place why next)
unfolding Placed
unless_placed l None place n why next fits i h = h
unless_placed l (Some k) place n why next fits i h = omega arith

nothing_placed : (l n : ℕ) (next : Grammar) → Placed l next → Placed l (nothing n next)
unfolding Placed
nothing_placed l n next h = λ place bytes fits len. unless_placed l (first_set bytes) place n reason.BadPadding next fits (subst (λ (m : ℕ). IsInside m (first_set bytes)) len (set_inside bytes)) h

anything_placed : (l n : ℕ) (next : Grammar) → Placed l next → Placed l (anything n next)
unfolding Placed
anything_placed l n next h = λ place bytes fits len. h

ends_placed : (l : ℕ) → Placed l Ends
unfolding Placed
ends_placed l = tt

-- ---- a request

body_placed : (l k c : ℕ) (fs : List BodyField) (next : Grammar) → Placed l next → Placed l (at_body k c fs next)
unfolding at_body
body_placed l k c [] next on = on
body_placed l k c (f ∷ fs) next on = number_placed l (width_of f) reason.BadValue (may_be k c f) (λ n. at_body (kind_after k f n) (count_after c f n) fs next) (λ n. body_placed l (kind_after k f n) (count_after c f n) fs next on)

name_placed : (l n : ℕ) (next : Grammar) → Placed l next → Placed l (at_name n next)
unfolding Placed
name_placed l n next on = λ place bytes fits len. unless_placed l (name_fault bytes) place n reason.BadValue next fits (subst (λ (m : ℕ). IsInside m (name_fault bytes)) len (name_by (is_dots bytes) bytes refl)) on

content_placed : (l : ℕ) (s : Shape) (n : ℕ) (next : Grammar) → Placed l next → Placed l (at_content s n next)
unfolding at_content
content_placed l shape.Body n next on = body_placed l 0 0 body_fields next on
content_placed l shape.Name n next on = name_placed l n next on
content_placed l _ n next on = anything_placed l n next on

param_placed : (l : ℕ) (s : Shape) (next : Grammar) → Placed l next → Placed l (at_param s next)
unfolding at_param
param_placed l s next on =
    number_placed l w16 reason.BadLength (allows s) (λ n. nothing 2 (nothing 4 (at_content s n (nothing (padding n) next))))
    (λ n. nothing_placed l 2 _ (nothing_placed l 4 _ (content_placed l s n (nothing (padding n) next) (nothing_placed l (padding n) next on))))

params_placed : (l : ℕ) (ss : List Shape) (next : Grammar) → Placed l next → Placed l (at_params ss next)
unfolding at_params
params_placed l [] next on = on
params_placed l (s ∷ ss) next on = param_placed l s (at_params ss next) (params_placed l ss next on)

head_placed : (l : ℕ) (owner : Option ℕ) (k : Kind) (next : Grammar) → Placed l next → Placed l (at_head owner k next)
unfolding at_head at_flags at_batch at_fid
head_placed l owner k next on =
    let g5 = at_params (shapes k) next in
    let g4 = anything 16 g5 in
    let g3 = number w64 reason.BadValue (batch_fits owner k) (λ n. g4) in
    let g2 = number w32 reason.BadValue (λ n. n == 0) (λ n. g3) in
    let a = anything_placed l 16 g5 (params_placed l (shapes k) next on) in
    let b = number_placed l w64 reason.BadValue (batch_fits owner k) (λ n. g4) (λ n. a) in
    let c = number_placed l w32 reason.BadValue (λ n. n == 0) (λ n. g3) (λ n. b) in
    number_placed l w16 reason.BadCount (λ n. n == length (shapes k)) (λ n. g2) (λ n. c)

kind_placed : (l : ℕ) (owner : Option ℕ) (o : Option Kind) (place : ℕ) (next : Grammar) → place ≤ l → Placed l next → Placed l (by_kind owner o place next)
unfolding Placed
kind_placed l owner None place next le on = le
kind_placed l owner (Some k) place next le on = if_placed l (may_stand owner k) (at_head owner k next) place reason.BadValue le (head_placed l owner k next on)

updates_placed : (l : ℕ) (owner : Option ℕ) (n : ℕ) (next : Grammar) → Placed l next → Placed l (at_updates owner n next)
unfolding at_updates at_update Placed
updates_placed l owner zero next on = on
updates_placed l owner (suc n) next on = λ place bytes fits len. kind_placed l owner (kind_at (worth w16 bytes)) place (at_updates owner n next) (omega arith) (updates_placed l owner n next on)

request_placed : (l : ℕ) (owner : Option ℕ) (next : Grammar) → Placed l next → Placed l (request_then owner next)
unfolding request_then at_count
request_placed l owner next on =
    let count = number_placed l w16 reason.BadCount (λ n. nat_le n 128) (λ n. nothing 2 (at_updates owner n next)) (λ n. nothing_placed l 2 (at_updates owner n next) (updates_placed l owner n next on)) in
    number_placed l w32 reason.BadMagic (λ n. n == request_magic) (λ _. at_count owner next) (λ n. count)

-- ---- a reply

result_placed : (l : ℕ) (next : Grammar) → Placed l next → Placed l (at_result next)
unfolding at_result at_length
result_placed l next on =
    let size = number_placed l w32 reason.BadLength (λ n. nat_le n 16384) (λ n. anything n (nothing (padding n) next)) (λ n. anything_placed l n _ (nothing_placed l (padding n) next on)) in
    number_placed l w32 reason.BadValue is_code (λ _. at_length next) (λ n. size)

results_placed : (l n : ℕ) (next : Grammar) → Placed l next → Placed l (at_results n next)
unfolding at_results
results_placed l zero next on = on
results_placed l (suc n) next on = result_placed l (at_results n next) (results_placed l n next on)

reply_placed : (l : ℕ) (next : Grammar) → Placed l next → Placed l (reply_then next)
unfolding reply_then at_reply_count
reply_placed l next on =
    let count = number_placed l w16 reason.BadCount (λ n. nat_le n 128) (λ n. nothing 2 (at_results n next)) (λ n. nothing_placed l 2 (at_results n next) (results_placed l n next on)) in
    number_placed l w32 reason.BadMagic (λ n. n == reply_magic) (λ _. at_reply_count next) (λ n. count)

-- ---- a record

end_placed : (found : Bool) → Placed 24576 (at_end found)
unfolding at_end Placed
end_placed found = λ place bytes fits len. if_placed 24576 found Ends 8 reason.BadValue (omega arith) tt

measured_placed : (batch : ℕ) (next : Grammar) → Placed 24576 next → Placed 24576 (records.at_length batch next)
unfolding records.at_length length_was Placed
measured_placed batch next on = λ field bytes fits len. request_placed 24576 (Some batch) _ (λ place b here none. if_placed 24576 (place == field + 4 + worth w32 bytes) next field reason.BadLength (omega arith) on)

parts_placed : (m b n least : ℕ) (found : Bool) → Placed 24576 (at_parts m b n least found)
unfolding at_parts
parts_placed m b zero least found = end_placed found
parts_placed m b (suc n) least found =
    number_placed 24576 w32 reason.BadValue (λ t. nat_le least t && nat_le t 15) (λ t. records.at_length b (at_parts m b n (t + 1) (found || (t == m))))
    (λ t. measured_placed b (at_parts m b n (t + 1) (found || (t == m))) (parts_placed m b n (t + 1) (found || (t == m))))

middle_placed : (m b : ℕ) → Placed 24576 (at_stamp m b)
unfolding at_stamp at_client at_code records.at_count
middle_placed m b =
    let count = number_placed 24576 w32 reason.BadCount (λ n. nat_le 1 n && nat_le n 16) (λ n. nothing 4 (at_parts m b n 0 false)) (λ n. nothing_placed 24576 4 (at_parts m b n 0 false) (parts_placed m b n 0 false)) in
    let code = number_placed 24576 w32 reason.BadValue is_code (λ _. records.at_count m b) (λ _. count) in
    let client = number_placed 24576 w32 reason.BadValue (λ n. nat_le n 63) (λ _. at_code m b) (λ _. code) in
    number_placed 24576 w64 reason.BadValue (λ n. nat_le 1 n) (λ _. at_client m b) (λ _. client)

record_placed : Placed 24576 whole_record
unfolding whole_record at_epoch at_master at_number records.at_batch
record_placed =
    let batch : (m : ℕ) → Placed 24576 (records.at_batch m) = λ m. number_placed 24576 w64 reason.BadValue (λ n. nat_le 1 n) (λ n. at_stamp m n) (λ n. middle_placed m n) in
    let numbered : (m : ℕ) → Placed 24576 (at_number m) = λ m. number_placed 24576 w32 reason.BadValue (λ n. nat_le 1 n && nat_le n 65536) (λ _. records.at_batch m) (λ _. batch m) in
    let master = number_placed 24576 w32 reason.BadValue (λ n. nat_le n 15) (λ n. at_number n) numbered in
    let epoch = number_placed 24576 w32 reason.BadValue (λ n. nat_le 1 n) (λ _. at_master) (λ _. master) in
    number_placed 24576 w32 reason.BadMagic (λ n. n == record_magic) (λ _. at_epoch) (λ _. epoch)

-- ---- a question, and facts

asked_placed : (o : Option Kind) (place : ℕ) → place ≤ 24576 → Placed 24576 (by_question o place)
unfolding Placed
asked_placed None place le = le
asked_placed (Some k) place le = if_placed 24576 (is_read k) (at_head None k Ends) place reason.BadValue le (head_placed 24576 None k Ends tt)

questions_placed : (b : Bool) → Placed 24576 (if b then Ends else at_question)
unfolding at_question Placed
questions_placed true = tt
questions_placed false = λ place bytes fits len. asked_placed (kind_at (worth w16 bytes)) place (omega arith)

question_placed : Placed 24576 whole_question
unfolding whole_question at_question_count
question_placed =
    let count = number_placed 24576 w16 reason.BadCount (λ n. nat_le n 1) (λ n. nothing 2 (at_questions n)) (λ n. nothing_placed 24576 2 (at_questions n) (questions_placed (n == 0))) in
    number_placed 24576 w32 reason.BadMagic (λ n. n == request_magic) (λ _. at_question_count) (λ _. count)

facts_placed : Placed 24600 whole_facts
unfolding whole_facts at_clock at_writer at_targets
facts_placed =
    let targets : (n : ℕ) → Placed 24600 (at_targets n) = λ n. number_placed 24600 w32 reason.BadValue (is_target_set n) (λ _. reply_then Ends) (λ _. reply_placed 24600 Ends (ends_placed 24600)) in
    let writer = number_placed 24600 w32 reason.BadValue (λ _. true) (λ n. at_targets n) targets in
    let clock = number_placed 24600 w64 reason.BadValue (λ _. true) (λ _. at_writer) (λ _. writer) in
    number_placed 24600 w64 reason.BadValue (λ _. true) (λ _. at_clock) (λ _. clock)

-- ---- where bodies are refused

pub record_within : (xs : List ℕ) (r : Refusal) → judge 24576 whole_record 0 xs ≡ Refused r → r.place ≤ 24576
record_within xs r e = refused_within 24576 whole_record 0 xs r (omega arith) record_placed e

pub question_within : (xs : List ℕ) (r : Refusal) → judge 24576 whole_question 0 xs ≡ Refused r → r.place ≤ 24576
question_within xs r e = refused_within 24576 whole_question 0 xs r (omega arith) question_placed e

pub facts_within : (xs : List ℕ) (r : Refusal) → judge 24600 whole_facts 0 xs ≡ Refused r → r.place ≤ 24600
facts_within xs r e = refused_within 24600 whole_facts 0 xs r (omega arith) facts_placed e
