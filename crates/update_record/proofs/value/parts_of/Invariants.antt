use Rattle.std.proofs.Common.{◌≡◌, ◌-◌}
use Rattle.byte_grammar.specs.Values.{many}
use Rattle.byte_grammar.proofs.Loop.{with_front}
use Rattle.update_record.specs.Values.{part_value}
use Rattle.update_record.proofs.value.parts_of.Given as goal

abbrev pub invariant-loop : goal.invariant-loop
invariant-loop l = with_front l.parts (many part_value (l.count - l.counter) l.rest) ≡ many part_value l.count l.bytes
