use Rattle.std.proofs.Common.{◌+◌, sym, ◌∙◌, arith}
use Rattle.std.proofs.lemmas.Bool.{true≢false}
use Rattle.outside.proofs.Places.{has_more, page_there, only_made}
use Rattle.outside.proofs.Whole.{on_err}
use Rattle.outside.proofs.fill.make_range.Goals as goal

pub returns-in_err-make_page-clause-kept : goal.returns-in_err-make_page-clause-kept
returns-in_err-make_page-clause-kept c = has_more _ _ _ c.loop-p.invariant.kept c.make_page.ensures.same

pub returns-in_err-make_page-clause-missing : goal.returns-in_err-make_page-clause-missing
returns-in_err-make_page-clause-missing c = on_err c.from_residual.result (λ there.
    let here = c.loop-p.invariant.kept.each c.loop-p.p (page_there c.args.pages.now.items c.args.at c.args.n c.loop-p.p there (omega arith) (omega arith) (omega arith)) in
    true≢false (sym here ∙ c.in_err-make_page.ensures.missing))

pub returns-in_err-make_page-clause-only : goal.returns-in_err-make_page-clause-only
returns-in_err-make_page-clause-only c = only_made _ _ c.args.at c.args.n (c.loop-p.p + 1) (omega arith) (omega arith)
    (λ q lt. c.make_page.ensures.below q (omega arith) ∙ c.loop-p.invariant.below q lt)
    (λ q le. c.make_page.ensures.above q (omega arith) ∙ c.loop-p.invariant.above q (omega arith))

pub returns-clause-only : goal.returns-clause-only
returns-clause-only c = only_made _ _ c.args.at c.args.n c.loop-p.p (omega arith) (omega arith) c.loop-p.invariant.below c.loop-p.invariant.above
