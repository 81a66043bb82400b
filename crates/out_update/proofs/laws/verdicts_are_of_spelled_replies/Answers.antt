use Rattle.byte_grammar.proofs.Whole.{done_spelled, spelled_done, refused_none, more_none}
use Rattle.out_update.specs.Replies.{FitsReply, reply_text, reply}
use Rattle.out_update.specs.Values.{reply_value}
use Rattle.out_update.proofs.Formats.{reply_format}
use Rattle.out_update.proofs.laws.verdicts_are_of_spelled_replies.Goals as goal

pub returns : goal.returns
returns c = record {
  done = done_spelled 24576 FitsReply reply_text reply reply_value reply_format;
  spelled = spelled_done 24576 FitsReply reply_text reply reply_value reply_format;
  refused = refused_none 24576 FitsReply reply_text reply reply_value reply_format;
  more = more_none 24576 FitsReply reply_text reply reply_value reply_format;
}
