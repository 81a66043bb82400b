-- The two formats.
use Rattle.byte_grammar.specs.Format.{IsFormat}
use Rattle.out_update.specs.Spelling.{request_text, FitsRequest}
use Rattle.out_update.specs.Reading.{request}
use Rattle.out_update.specs.Replies.{reply, reply_text, FitsReply}
use Rattle.out_update.specs.Values.{request_value, reply_value}
use Rattle.out_update.proofs.Requests.{request_again, request_takes}
use Rattle.out_update.proofs.RequestValues.{request_back}
use Rattle.out_update.proofs.Replies.{reply_again, reply_takes, reply_back}

pub request_format : IsFormat 24576 FitsRequest request_text request request_value
request_format = record { again = request_again; takes = request_takes; back = request_back }

pub reply_format : IsFormat 24576 FitsReply reply_text reply reply_value
reply_format = record { again = reply_again; takes = reply_takes; back = reply_back }
