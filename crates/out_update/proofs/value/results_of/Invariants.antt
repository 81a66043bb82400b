use Rattle.std.proofs.Common.{◌≡◌, ◌-◌}
use Rattle.byte_grammar.specs.Values.{many}
use Rattle.byte_grammar.proofs.Loop.{with_front}
use Rattle.out_update.specs.Values.{result_value}
use Rattle.out_update.proofs.value.results_of.Given as goal

abbrev pub invariant-loop : goal.invariant-loop
invariant-loop l = with_front l.results (many result_value (l.count - l.counter) l.rest) ≡ many result_value l.count l.bytes
