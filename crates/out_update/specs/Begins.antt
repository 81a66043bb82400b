-- Before the first byte of a request or a reply a field is to come.
use Rattle.std.specs.Prelude.{refl}
use Rattle.byte_grammar.specs.Grammar.{judge}
use Rattle.byte_grammar.specs.Steps.{Begins}
use Rattle.out_update.specs.Reading.{request, request_then}
use Rattle.out_update.specs.Replies.{reply, reply_then}

pub request_begins : Begins 24576 request
unfolding judge request request_then
request_begins = refl

pub reply_begins : Begins 24576 reply
unfolding judge reply reply_then
reply_begins = refl
