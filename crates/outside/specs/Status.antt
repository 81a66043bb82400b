-- How a run of the program ends, as the number that it answers.
use Rattle.std.specs.Prelude.{ℕ}
use Rattle.outside.specs.declared.status.Status.{Status}
use Rattle.outside.specs.declared.status.Status.TheVariants.{Done, Refused, Memory, Source, Sink}

abbrev pub code_of : Status → ℕ
code_of Done = 0
code_of Refused = 2
code_of Memory = 3
code_of Source = 4
code_of Sink = 5
