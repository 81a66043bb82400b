use Rattle.std.proofs.Common.{◌≡◌, ◌-◌}
use Rattle.byte_grammar.specs.Values.{many}
use Rattle.byte_grammar.proofs.Loop.{with_front}
use Rattle.out_update.specs.Values.{param_value}
use Rattle.out_update.proofs.value.params_of.Given as goal

abbrev pub invariant-loop : goal.invariant-loop
invariant-loop l = with_front l.params (many param_value (l.count - l.counter) l.rest) ≡ many param_value l.count l.bytes
