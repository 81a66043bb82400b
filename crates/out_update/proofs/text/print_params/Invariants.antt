use Rattle.std.proofs.Common.{◌≡◌, ◌++◌, drop}
use Rattle.std.specs.List.{flat_map}
use Rattle.out_update.specs.Text.{param_line}
use Rattle.out_update.proofs.text.print_params.Given as goal

abbrev pub invariant-loop-param : goal.invariant-loop-param
invariant-loop-param l = l.out ++ flat_map param_line (drop l.param-index l.params) ≡ l.fn.out ++ flat_map param_line l.params
