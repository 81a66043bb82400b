use Rattle.byte_grammar.proofs.Whole.{done_spelled, spelled_done, refused_none, more_none}
use Rattle.update_record.specs.Spelling.{FitsRecord, record_text}
use Rattle.update_record.specs.Reading.{whole_record}
use Rattle.update_record.specs.Values.{record_value}
use Rattle.update_record.proofs.Formats.{record_format}
use Rattle.update_record.proofs.laws.verdicts_are_of_spelled_records.Goals as goal

pub returns : goal.returns
returns c = record {
  done = done_spelled 24576 FitsRecord record_text whole_record record_value record_format;
  spelled = spelled_done 24576 FitsRecord record_text whole_record record_value record_format;
  refused = refused_none 24576 FitsRecord record_text whole_record record_value record_format;
  more = more_none 24576 FitsRecord record_text whole_record record_value record_format;
}
