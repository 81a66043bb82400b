use Rattle.std.proofs.Common.{refl}
use Rattle.byte_grammar.proofs.Whole.{one_spelling, one_value, no_prefix}
use Rattle.out_update.specs.Spelling.{FitsRequest, request_text}
use Rattle.out_update.specs.Reading.{request}
use Rattle.out_update.specs.Values.{request_value}
use Rattle.out_update.proofs.Formats.{request_format}
use Rattle.out_update.proofs.laws.one_spelling_per_request.Goals as goal

pub returns : goal.returns
returns c = record {
  some = λ v fits. (request_text v, (fits, refl));
  one_spelling = one_spelling 24576 FitsRequest request_text request request_value request_format;
  one_value = one_value 24576 FitsRequest request_text request request_value request_format;
  no_prefix = no_prefix 24576 FitsRequest request_text request request_value request_format;
}
