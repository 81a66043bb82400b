-- Where a reader of a record stands, and what is still to come there.
use Rattle.std.specs.Prelude.{ℕ, ◌+◌, Bool, true, false, Some}
use Rattle.byte_grammar.specs.Grammar.{Grammar}
use Rattle.byte_grammar.specs.Grammar.Grammar.{Ends}
use Rattle.byte_grammar.specs.Fields.{nothing}
use Rattle.out_update.specs.Positions.{at_position, rank_of}
use Rattle.update_record.specs.declared.position.Behind.{Behind}
use Rattle.update_record.specs.declared.position.RecordPosition.{RecordPosition}
use Rattle.update_record.specs.declared.position.RecordPosition.TheVariants as at
use Rattle.update_record.specs.Reading.{length_was, at_length, at_parts, at_count, at_code, at_client, at_stamp, at_batch, at_number, at_master, at_epoch, whole_record}

-- the parts behind
abbrev pub parts_behind : Behind → Grammar
parts_behind b = at_parts b.master b.batch b.left b.least b.found

abbrev pub at_record : RecordPosition → Grammar
at_record at.Magic = whole_record
at_record at.Epoch = at_epoch
at_record at.Master = at_master
at_record (at.Number m) = at_number m
at_record (at.Batch m) = at_batch m
at_record (at.Stamp m b) = at_stamp m b
at_record (at.Client m b) = at_client m b
at_record (at.Code m b) = at_code m b
at_record (at.Count m b) = at_count m b
at_record (at.Reserved b) = nothing 4 (parts_behind b)
at_record (at.Parts b) = parts_behind b
at_record (at.Length b) = at_length b.batch (parts_behind b)
at_record (at.Request field len b r) = at_position (Some b.batch) (length_was field len (parts_behind b)) r
at_record at.End = Ends

-- falls where a field has no byte
abbrev pub record_rank : RecordPosition → ℕ
record_rank (at.Request field len b r) = 2 + rank_of r
record_rank (at.Parts b) = 1
record_rank _ = 0

-- fields that are read together
abbrev pub is_front : RecordPosition → Bool
is_front at.Magic = true
is_front at.Epoch = true
is_front at.Master = true
is_front (at.Number m) = true
is_front _ = false

abbrev pub is_long : RecordPosition → Bool
is_long (at.Batch m) = true
is_long (at.Stamp m b) = true
is_long _ = false

abbrev pub is_back : RecordPosition → Bool
is_back (at.Client m b) = true
is_back (at.Code m b) = true
is_back (at.Count m b) = true
is_back _ = false
