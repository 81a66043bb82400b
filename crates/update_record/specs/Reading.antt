-- The fields of a record, in the order in which they are judged. What the fields behind hang on stands in
-- the arguments: the master, the batch, the least target that may come, and whether the master was there.
use Rattle.std.specs.Prelude.{ℕ, zero, suc, ◌+◌, Bool, false, ◌==◌, ◌||◌, ◌&&◌, nat_le, if◌then◌else◌, Some}
use Rattle.std.specs.Int.{w32, w64}
use Rattle.byte_grammar.specs.declared.verdict.Reason.TheVariants.{BadMagic, BadCount, BadLength, BadValue}
use Rattle.byte_grammar.specs.Grammar.{Grammar}
use Rattle.byte_grammar.specs.Grammar.Grammar.{Ends, Field}
use Rattle.byte_grammar.specs.Numbers.{worth}
use Rattle.byte_grammar.specs.Fields.{refuse, number, nothing}
use Rattle.out_update.specs.Reading.{request_then}
use Rattle.out_update.specs.Replies.{is_code}
use Rattle.update_record.specs.Spelling.{record_magic}

-- the master is judged behind all parts; the place is the master's field
unfoldable pub at_end : Bool → Grammar
at_end found = Field 0 (λ place bytes. if found then Ends else refuse 8 BadValue)

-- the length of a request is judged behind it; the place is the length's field
unfoldable pub length_was : ℕ → ℕ → Grammar → Grammar
length_was field len next = Field 0 (λ place bytes. if place == field + 4 + len then next else refuse field BadLength)

unfoldable pub at_length : ℕ → Grammar → Grammar
at_length batch next = Field 4 (λ field bytes. request_then (Some batch) (length_was field (worth w32 bytes) next))

-- so many parts, each target above the one before
unfoldable pub at_parts : ℕ → ℕ → ℕ → ℕ → Bool → Grammar
at_parts master batch zero least found = at_end found
at_parts master batch (suc n) least found = number w32 BadValue (λ t. nat_le least t && nat_le t 15) (λ t. at_length batch (at_parts master batch n (t + 1) (found || (t == master))))

unfoldable pub at_count : ℕ → ℕ → Grammar
at_count master batch = number w32 BadCount (λ n. nat_le 1 n && nat_le n 16) (λ n. nothing 4 (at_parts master batch n 0 false))

unfoldable pub at_code : ℕ → ℕ → Grammar
at_code master batch = number w32 BadValue is_code (λ _. at_count master batch)

unfoldable pub at_client : ℕ → ℕ → Grammar
at_client master batch = number w32 BadValue (λ n. nat_le n 63) (λ _. at_code master batch)

unfoldable pub at_stamp : ℕ → ℕ → Grammar
at_stamp master batch = number w64 BadValue (λ n. nat_le 1 n) (λ _. at_client master batch)

unfoldable pub at_batch : ℕ → Grammar
at_batch master = number w64 BadValue (λ n. nat_le 1 n) (λ n. at_stamp master n)

unfoldable pub at_number : ℕ → Grammar
at_number master = number w32 BadValue (λ n. nat_le 1 n && nat_le n 65536) (λ _. at_batch master)

unfoldable pub at_master : Grammar
at_master = number w32 BadValue (λ n. nat_le n 15) (λ n. at_number n)

unfoldable pub at_epoch : Grammar
at_epoch = number w32 BadValue (λ n. nat_le 1 n) (λ _. at_master)

-- a record alone
unfoldable pub whole_record : Grammar
whole_record = number w32 BadMagic (λ n. n == record_magic) (λ _. at_epoch)
