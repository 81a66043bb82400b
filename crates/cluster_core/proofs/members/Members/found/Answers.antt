use Rattle.std.proofs.Common.{◌++◌, ◌∷◌, [], ◌+◌, sym, ap, ◌∙◌, append_assoc, arith}
use Rattle.std.proofs.lemmas.List.{length_push}
use Rattle.cluster_core.specs.Cluster.{target_at}
use Rattle.cluster_core.specs.Founding.{founding_lines, foundings_lines}
use Rattle.cluster_core.proofs.Placed.{touched_then}
use Rattle.cluster_core.proofs.Founded.{founded_push, founding_push}
use Rattle.cluster_core.proofs.members.Members.found.Goals as goal

-- src/ending.rt:36:9
pub loop-target-preserved : goal.loop-target-preserved
loop-target-preserved g c =
    let first = c.args.self.now in
    let old = c.loop-target.self in
    let new = c.found_at.new.self in
    let before = c.loop-target.invariant.clusters in
    let at = c.loop-target.target in
    record {
      clusters = (
        before.0 ++ new ∷ [],
        founded_push 0 at first before.0 old new before.1 (omega (arith, before.2)) c.in_ok-found_at.ensures.does,
        length_push before.0 new ∙ ap (λ n. n + 1) before.2,
        c.in_ok-found_at.ensures.lines ∙ ap (λ ls. ls ++ founding_lines at (target_at new.targets at)) before.3 ∙ append_assoc c.args.lines.now (foundings_lines 0 before.0) (founding_lines at (target_at new.targets at))
            ∙ ap (λ ls. c.args.lines.now ++ ls) (sym (founding_push 0 at before.0 new (omega (arith, before.2)))),
      );
      touched = touched_then first.targets old.targets new.targets c.loop-target.invariant.touched c.found_at.ensures.touched;
    }
