use Rattle.std.proofs.Common.{refl}
use Rattle.byte_grammar.proofs.Whole.{one_spelling, one_value, no_prefix}
use Rattle.update_record.specs.Spelling.{FitsRecord, record_text}
use Rattle.update_record.specs.Reading.{whole_record}
use Rattle.update_record.specs.Values.{record_value}
use Rattle.update_record.proofs.Formats.{record_format}
use Rattle.update_record.proofs.laws.one_spelling_per_record.Goals as goal

pub returns : goal.returns
returns c = record {
  some = λ v fits. (record_text v, (fits, refl));
  one_spelling = one_spelling 24576 FitsRecord record_text whole_record record_value record_format;
  one_value = one_value 24576 FitsRecord record_text whole_record record_value record_format;
  no_prefix = no_prefix 24576 FitsRecord record_text whole_record record_value record_format;
}
