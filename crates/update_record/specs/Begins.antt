-- Before the first byte of a record a field is to come.
use Rattle.std.specs.Prelude.{refl}
use Rattle.byte_grammar.specs.Grammar.{judge}
use Rattle.byte_grammar.specs.Steps.{Begins}
use Rattle.update_record.specs.Reading.{whole_record}

pub record_begins : Begins 24576 whole_record
unfolding judge whole_record
record_begins = refl
