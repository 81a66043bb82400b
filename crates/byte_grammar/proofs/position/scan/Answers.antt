use Rattle.std.proofs.Common.{◌∙◌, sym, arith, drop, length-drop}
use Rattle.byte_grammar.proofs.Streaming.{at_end, too_long, too_short, reads_past, refuses_next, now_as}
use Rattle.byte_grammar.proofs.position.scan.Goals as goal

pub returns-in_default-clause-verdict : goal.returns-in_default-clause-verdict
returns-in_default-clause-verdict g c = sym (now_as _ _ _ _ _ _ _ c.loop-width.invariant.resumes ∙ at_end g.P.Position.LIMIT _ c.loop-width.reached.place (drop c.loop-width.reached.place c.args.bytes.now) (sym c.in_default.ensures))

pub returns-then-width-LIMIT-clause-verdict : goal.returns-then-width-LIMIT-clause-verdict
returns-then-width-LIMIT-clause-verdict g c = sym (now_as _ _ _ _ _ _ _ c.loop-width.invariant.resumes ∙ too_long g.P.Position.LIMIT _ c.loop-width.reached.place c.in-Some.width (drop c.loop-width.reached.place c.args.bytes.now) (sym c.in-Some.ensures) (omega arith) (omega arith))

pub returns-then-width-bytes-clause-verdict : goal.returns-then-width-bytes-clause-verdict
returns-then-width-bytes-clause-verdict g c = sym (now_as _ _ _ _ _ _ _ c.loop-width.invariant.resumes ∙ too_short g.P.Position.LIMIT _ c.loop-width.reached.place c.in-Some.width (drop c.loop-width.reached.place c.args.bytes.now) (sym c.in-Some.ensures) (omega arith) (omega (arith, length-drop c.loop-width.reached.place c.args.bytes.now)))

pub loop-width-preserved : goal.loop-width-preserved
loop-width-preserved g c = record {
  in_bytes = omega arith;
  resumes = λ more. c.loop-width.invariant.resumes more ∙ reads_past g.P.Position.LIMIT _ _ c.loop-width.reached.place c.in-Some.width c.args.bytes.now more (sym c.in-Some.ensures) (omega arith) (omega arith) c.in-Ok.ensures.steps;
}

pub returns-in-Err-clause-verdict : goal.returns-in-Err-clause-verdict
returns-in-Err-clause-verdict g c = let h = c.in-Err.ensures.steps in sym (now_as _ _ _ _ _ _ _ c.loop-width.invariant.resumes ∙ refuses_next g.P.Position.LIMIT _ _ c.loop-width.reached.place c.in-Some.width c.args.bytes.now (sym c.in-Some.ensures) (omega arith) (omega arith) h)
