use Rattle.byte_grammar.proofs.Whole.{done_spelled, spelled_done, refused_none, more_none}
use Rattle.update_record.specs.Messages.{FitsFacts, facts_text}
use Rattle.update_record.specs.MessageReading.{whole_facts}
use Rattle.update_record.specs.FactsValues.{facts_value}
use Rattle.update_record.proofs.FactsValues.{facts_format}
use Rattle.update_record.proofs.laws.verdicts_are_of_spelled_facts.Goals as goal

pub returns : goal.returns
returns c = record {
  done = done_spelled 24600 FitsFacts facts_text whole_facts facts_value facts_format;
  spelled = spelled_done 24600 FitsFacts facts_text whole_facts facts_value facts_format;
  refused = refused_none 24600 FitsFacts facts_text whole_facts facts_value facts_format;
  more = more_none 24600 FitsFacts facts_text whole_facts facts_value facts_format;
}
