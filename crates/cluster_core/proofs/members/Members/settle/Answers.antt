use Rattle.std.proofs.Common.{◌≡◌, ◌++◌, ◌∷◌, [], ◌+◌, Bool, List, sym, ap, ◌∙◌, subst, append_assoc}
use Rattle.std.proofs.lemmas.List.{length_push}
use Rattle.scenario_text.specs.declared.line.Line.{Line}
use Rattle.cluster_core.specs.Delivery.{Nexts, Step, steps_lines}
use Rattle.cluster_core.proofs.Placed.{touched_then}
use Rattle.cluster_core.proofs.Stepping.{steps_push, lines_push}
use Rattle.cluster_core.proofs.members.Members.settle.Goals as goal

-- src/delivering.rt:202:9
pub loop-turn-preserved : goal.loop-turn-preserved
loop-turn-preserved g c =
    let first = c.args.self.now in
    let old = c.loop-turn.self in
    let new = c.deliver_next.new.self in
    let before = c.loop-turn.invariant.steps in
    let next = subst (λ (more : Bool). (ls : List Line) × Nexts more old new ls × (c.deliver_next.new.lines ≡ c.loop-turn.lines ++ ls)) c.if-not-branch.false c.in_ok-deliver_next.ensures.does in
    let step : Step = record { number = next.1.0; after = new; said = next.0 } in
    record {
      steps = (
        before.0 ++ step ∷ [],
        steps_push first before.0 old next.1.0 new next.0 before.1 next.1.1 next.1.2,
        length_push before.0 step ∙ ap (λ n. n + 1) before.2,
        next.2 ∙ ap (λ ls. ls ++ next.0) before.3 ∙ append_assoc c.args.lines.now (steps_lines before.0) next.0 ∙ ap (λ ls. c.args.lines.now ++ ls) (sym (lines_push before.0 step)),
      );
      touched = touched_then first.targets old.targets new.targets c.loop-turn.invariant.touched c.deliver_next.ensures.touched;
    }
