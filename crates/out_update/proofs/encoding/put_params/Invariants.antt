use Rattle.std.proofs.Common.{◌≡◌, ◌++◌, drop}
use Rattle.out_update.specs.Spelling.{params_text}
use Rattle.out_update.proofs.encoding.put_params.Given as goal

abbrev pub invariant-loop-param : goal.invariant-loop-param
invariant-loop-param l = l.out.items ++ params_text (drop l.param-index l.params) ≡ l.fn.out.items ++ params_text l.params
