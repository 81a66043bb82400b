-- Before the first byte of each a field is to come.
use Rattle.std.specs.Prelude.{refl}
use Rattle.byte_grammar.specs.Grammar.{judge}
use Rattle.byte_grammar.specs.Steps.{Begins}
use Rattle.update_record.specs.MessageReading.{whole_head, whole_question, whole_facts}

pub head_begins : Begins 56 whole_head
unfolding judge whole_head
head_begins = refl

pub question_begins : Begins 24576 whole_question
unfolding judge whole_question
question_begins = refl

pub facts_begins : Begins 24600 whole_facts
unfolding judge whole_facts
facts_begins = refl
