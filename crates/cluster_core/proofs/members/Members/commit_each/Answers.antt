use Rattle.std.proofs.Common.{◌++◌, ◌∷◌, [], ◌+◌, sym, ap, ◌∙◌, append_assoc, arith}
use Rattle.std.proofs.lemmas.Result.{on_ok_weaker}
use Rattle.std.proofs.lemmas.List.{length_push}
use Rattle.cluster_core.specs.Ends.{Commit, commits_lines}
use Rattle.cluster_core.proofs.Placed.{touched_then}
use Rattle.cluster_core.proofs.Ended.{commits_push, said_push, broken}
use Rattle.cluster_core.proofs.members.Members.commit_each.Goals as goal

-- src/ending.rt:60:17
pub returns-then-not-branch-clause-does : goal.returns-then-not-branch-clause-does
returns-then-not-branch-clause-does g c =
    let before = c.loop-target.invariant.commits in
    let does = c.in_ok-commit_last.ensures.does in
    on_ok_weaker c.push.result
    (broken c.args.self.now c.loop-target.self c.commit_last.new.self before.0 c.loop-target.target does.0 c.args.lines.now c.loop-target.lines c.commit_last.new.lines c.push.new.self before.1 before.2
    (omega (arith, c.loop-target-test.true, c.count-target-end.ensures.count)) does.1 (sym c.in_ok-commit_last.ensures.serves ∙ c.if-not-branch.true) before.3 does.2)
    c.push.ensures.ok

-- src/ending.rt:58:9
pub loop-target-preserved : goal.loop-target-preserved
loop-target-preserved g c =
    let first = c.args.self.now in
    let old = c.loop-target.self in
    let new = c.commit_last.new.self in
    let before = c.loop-target.invariant.commits in
    let does = c.in_ok-commit_last.ensures.does in
    let step : Commit = record { after = new; said = does.0 } in
    record {
      commits = (
        before.0 ++ step ∷ [],
        commits_push 0 c.loop-target.target first before.0 old new does.0 before.1 (omega (arith, before.2)) does.1 (sym c.in_ok-commit_last.ensures.serves ∙ c.if-not-branch.false),
        length_push before.0 step ∙ ap (λ n. n + 1) before.2,
        does.2 ∙ ap (λ ls. ls ++ does.0) before.3 ∙ append_assoc c.args.lines.now (commits_lines before.0) does.0 ∙ ap (λ ls. c.args.lines.now ++ ls) (sym (said_push before.0 step)),
      );
      touched = touched_then first.targets old.targets new.targets c.loop-target.invariant.touched c.commit_last.ensures.touched;
    }
