use Rattle.std.proofs.Common.{refl}
use Rattle.byte_grammar.proofs.Whole.{one_spelling, one_value, no_prefix}
use Rattle.out_update.specs.Replies.{FitsReply, reply_text, reply}
use Rattle.out_update.specs.Values.{reply_value}
use Rattle.out_update.proofs.Formats.{reply_format}
use Rattle.out_update.proofs.laws.one_spelling_per_reply.Goals as goal

pub returns : goal.returns
returns c = record {
  some = λ v fits. (reply_text v, (fits, refl));
  one_spelling = one_spelling 24576 FitsReply reply_text reply reply_value reply_format;
  one_value = one_value 24576 FitsReply reply_text reply reply_value reply_format;
  no_prefix = no_prefix 24576 FitsReply reply_text reply reply_value reply_format;
}
