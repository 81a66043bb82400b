use Rattle.byte_grammar.proofs.Whole.{done_spelled, spelled_done, refused_none, more_none}
use Rattle.out_update.specs.Spelling.{FitsRequest, request_text}
use Rattle.out_update.specs.Reading.{request}
use Rattle.out_update.specs.Values.{request_value}
use Rattle.out_update.proofs.Formats.{request_format}
use Rattle.out_update.proofs.laws.verdicts_are_of_spelled_requests.Goals as goal

pub returns : goal.returns
returns c = record {
  done = done_spelled 24576 FitsRequest request_text request request_value request_format;
  spelled = spelled_done 24576 FitsRequest request_text request request_value request_format;
  refused = refused_none 24576 FitsRequest request_text request request_value request_format;
  more = more_none 24576 FitsRequest request_text request request_value request_format;
}
