use Rattle.std.proofs.Common.{IsSome, sym, ap, subst, ◌∙◌}
use Rattle.std.specs.FinMap as map
use Rattle.commit_sharing.specs.Pending.{Writers, put_back}
use Rattle.commit_sharing.proofs.Writers.{is_noted, restored}
use Rattle.commit_sharing.proofs.pending.Pending.+note.Goals as goal

pub put_back-requires-clause-noted : goal.put_back-requires-clause-noted
put_back-requires-clause-noted t c =
    let e = c.in-Err.ensures.err ∙ c.in_ok-before-in-Some.ensures.ok in
    subst (λ (m : Writers). IsSome (map.get m c.in-Some.fid.now)) (sym e) (is_noted c.args.self.now c.in-Some.fid.now (c.args.number, c.args.on))

pub put_back-requires-clause-number : goal.put_back-requires-clause-number
put_back-requires-clause-number t c = c.in_ok-before-in-Some.ensures.number

pub returns-in-Err-clause-err : goal.returns-in-Err-clause-err
returns-in-Err-clause-err t c =
    let e = c.in-Err.ensures.err ∙ c.in_ok-before-in-Some.ensures.ok in
    c.put_back.ensures ∙ ap (λ (m : Writers). put_back m c.in-Some.fid.now c.in_ok-before-in-Some.before) e
    ∙ restored c.args.self.now c.in-Some.fid.now (c.args.number, c.args.on) c.in_ok-before-in-Some.before c.in_ok-before-in-Some.ensures.before
