-- The format of records.
use Rattle.byte_grammar.specs.Format.{IsFormat}
use Rattle.update_record.specs.Spelling.{record_text, FitsRecord}
use Rattle.update_record.specs.Reading.{whole_record}
use Rattle.update_record.specs.Values.{record_value}
use Rattle.update_record.proofs.Records.{record_again, record_takes}
use Rattle.update_record.proofs.RecordValues.{record_back}

pub record_format : IsFormat 24576 FitsRecord record_text whole_record record_value
record_format = record { again = record_again; takes = record_takes; back = record_back }
