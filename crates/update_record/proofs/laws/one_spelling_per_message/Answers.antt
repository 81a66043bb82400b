use Rattle.std.proofs.Common.{◌∙◌, refl, sym}
use Rattle.update_record.specs.Messages.{message_text}
use Rattle.update_record.proofs.MessageLaws.{one_value, no_prefix}
use Rattle.update_record.proofs.laws.one_spelling_per_message.Goals as goal

pub returns : goal.returns
returns c = record {
  some = λ m fits. (message_text m, (fits, refl));
  one_spelling = λ m a b h k. h.1 ∙ sym k.1;
  one_value = one_value;
  no_prefix = no_prefix;
}
