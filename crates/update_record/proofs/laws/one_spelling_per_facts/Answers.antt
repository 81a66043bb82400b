use Rattle.std.proofs.Common.{refl}
use Rattle.byte_grammar.proofs.Whole.{one_spelling, one_value, no_prefix}
use Rattle.update_record.specs.Messages.{FitsFacts, facts_text}
use Rattle.update_record.specs.MessageReading.{whole_facts}
use Rattle.update_record.specs.FactsValues.{facts_value}
use Rattle.update_record.proofs.FactsValues.{facts_format}
use Rattle.update_record.proofs.laws.one_spelling_per_facts.Goals as goal

pub returns : goal.returns
returns c = record {
  some = λ v fits. (facts_text v, (fits, refl));
  one_spelling = one_spelling 24600 FitsFacts facts_text whole_facts facts_value facts_format;
  one_value = one_value 24600 FitsFacts facts_text whole_facts facts_value facts_format;
  no_prefix = no_prefix 24600 FitsFacts facts_text whole_facts facts_value facts_format;
}
