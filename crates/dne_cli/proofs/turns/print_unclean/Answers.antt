use Rattle.scenario_text.specs.declared.line.Line.TheVariants as lines
use Rattle.dne_cli.proofs.Printed.{printed_two}
use Rattle.dne_cli.proofs.turns.print_unclean.Goals as goal

pub returns : goal.returns
returns c = printed_two c.print_end_unclean.result c.args.out.now c.print_down.new.out c.print_end_unclean.new.out (lines.Down 0) (lines.EndUnclean 0) c.in_ok-print_down.ensures.ok c.print_end_unclean.ensures.ok
