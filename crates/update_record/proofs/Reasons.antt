-- The reasons that records are refused for.
use Rattle.std.proofs.Common.{◌≡◌, ℕ, zero, suc, ◌+◌, Bool, true, false, ◌==◌, ◌||◌, ◌&&◌, List, Some, refl}
use Rattle.std.specs.Prelude.{nat_le}
use Rattle.std.specs.Int.{w32, w64}
use Rattle.byte_grammar.specs.declared.verdict.Reason.TheVariants as reason
use Rattle.byte_grammar.specs.declared.verdict.Refusal.{Refusal}
use Rattle.byte_grammar.specs.declared.verdict.Verdict.TheVariants as verdict
use Rattle.byte_grammar.specs.Grammar.{Grammar, Only}
use Rattle.byte_grammar.specs.Grammar.Grammar.{Ends}
use Rattle.byte_grammar.specs.Numbers.{worth}
use Rattle.byte_grammar.specs.Fields.{nothing}
use Rattle.byte_grammar.proofs.Reasons.{named_reason, if_only, number_only, nothing_only}
use Rattle.out_update.specs.Replies.{is_code}
use Rattle.out_update.specs.Decoding.{is_update_reason}
use Rattle.out_update.proofs.Reasons.{request_only}
use Rattle.update_record.specs.Spelling.{record_magic}
use Rattle.update_record.specs.Reading.{at_end, length_was, at_length, at_parts, at_count, at_code, at_client, at_stamp, at_batch, at_number, at_master, at_epoch, whole_record}
use Rattle.update_record.specs.Decoding.{judge_record}

abbrev Mine : Grammar → Type 0
Mine g = Only is_update_reason g

end_only : (found : Bool) → Mine (at_end found)
unfolding at_end Only
end_only found = λ place bytes. if_only is_update_reason found Ends 8 reason.BadValue refl tt

length_only : (batch : ℕ) (next : Grammar) → Mine next → Mine (at_length batch next)
unfolding at_length length_was Only
length_only batch next on = λ field bytes. request_only (Some batch) _ (λ place b. if_only is_update_reason (place == field + 4 + worth w32 bytes) next field reason.BadLength refl on)

parts_only : (m b n least : ℕ) (found : Bool) → Mine (at_parts m b n least found)
unfolding at_parts
parts_only m b zero least found = end_only found
parts_only m b (suc n) least found =
    number_only is_update_reason w32 reason.BadValue (λ t. nat_le least t && nat_le t 15) (λ t. at_length b (at_parts m b n (t + 1) (found || (t == m)))) refl
    (λ t. length_only b (at_parts m b n (t + 1) (found || (t == m))) (parts_only m b n (t + 1) (found || (t == m))))

count_only : (m b : ℕ) → Mine (at_count m b)
unfolding at_count
count_only m b =
    number_only is_update_reason w32 reason.BadCount (λ n. nat_le 1 n && nat_le n 16) (λ n. nothing 4 (at_parts m b n 0 false)) refl (λ n. nothing_only is_update_reason 4 (at_parts m b n 0 false) refl (parts_only m b n 0 false))

middle_only : (m b : ℕ) → Mine (at_stamp m b)
unfolding at_stamp at_client at_code
middle_only m b =
    let code = number_only is_update_reason w32 reason.BadValue is_code (λ _. at_count m b) refl (λ _. count_only m b) in
    let client = number_only is_update_reason w32 reason.BadValue (λ n. nat_le n 63) (λ _. at_code m b) refl (λ _. code) in
    number_only is_update_reason w64 reason.BadValue (λ n. nat_le 1 n) (λ _. at_client m b) refl (λ _. client)

number_field_only : (m : ℕ) → Mine (at_number m)
unfolding at_number at_batch
number_field_only m =
    let batch = number_only is_update_reason w64 reason.BadValue (λ n. nat_le 1 n) (λ n. at_stamp m n) refl (λ n. middle_only m n) in
    number_only is_update_reason w32 reason.BadValue (λ n. nat_le 1 n && nat_le n 65536) (λ _. at_batch m) refl (λ _. batch)

record_only : Mine whole_record
unfolding whole_record at_epoch at_master
record_only =
    let master = number_only is_update_reason w32 reason.BadValue (λ n. nat_le n 15) (λ n. at_number n) refl (λ n. number_field_only n) in
    let epoch = number_only is_update_reason w32 reason.BadValue (λ n. nat_le 1 n) (λ _. at_master) refl (λ _. master) in
    number_only is_update_reason w32 reason.BadMagic (λ n. n == record_magic) (λ _. at_epoch) refl (λ _. epoch)

pub record_reason : (bytes : List ℕ) (r : Refusal) → judge_record bytes ≡ verdict.Refused r → is_update_reason r.reason ≡ true
record_reason bytes r e = named_reason is_update_reason 24576 whole_record 0 bytes r refl record_only e
