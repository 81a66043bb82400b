use Rattle.std.proofs.lemmas.Result.{err_from_is_err_and}
use Rattle.fid_space.proofs.Fronts.{front_items}
use Rattle.scenario_text.specs.LineText.{line_text}
use Rattle.scenario_text.proofs.lines.print_lines.Goals as goal

pub returns-in_err-print-clause-err : goal.returns-in_err-print-clause-err
returns-in_err-print-clause-err c =
    let p = err_from_is_err_and c.from_residual.result c.from_residual.ensures.1 in
    rw p.1 (front_items line_text c.args.lines.now c.loop-line.line-index c.args.out.now c.loop-line.out c.print.new.out c.loop-line.invariant c.in_err-print.ensures.err)
