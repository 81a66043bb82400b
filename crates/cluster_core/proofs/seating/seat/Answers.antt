use Rattle.std.proofs.Common.{◌<◌, ◌++◌, ◌∷◌, [], ◌+◌, false, List, map, sym, ap, ◌∙◌, append_assoc, arith}
use Rattle.std.proofs.lemmas.List.{length_push}
use Rattle.target_turns.specs.Target.{Target, target_down}
use Rattle.cluster_core.proofs.Seated.{unfounded_push, first_removed, some_left}
use Rattle.cluster_core.proofs.seating.seat.Goals as goal

-- src/seating.rt:26:5
pub loop-index-preserved : goal.loop-index-preserved
loop-index-preserved g c =
    let shown = g.D.Disk.shown in
    let before = c.loop-index.invariant.seats in
    let disk = c.remove-disk.result in
    let rest = c.remove-disk.new.self.items in
    let low : c.loop-index.index < c.args.cluster = omega (arith, c.loop-index-test.true, c.targets-index-end.ensures.count) in
    record {
      seats = (
        before.0 ++ shown disk ∷ [],
        before.1 ∙ ap (λ ds. before.0 ++ map shown ds) (first_removed c.loop-index.disks.items disk rest (some_left shown c.args.disks.now.items c.loop-index.disks.items before.0 c.loop-index.index c.args.cluster before.1 before.2 low c.requires.disks) c.remove-disk.ensures.value c.remove-disk.ensures.by_index.2) ∙ sym (append_assoc before.0 (shown disk ∷ []) (map shown rest)),
        length_push before.0 (shown disk) ∙ ap (λ n. n + 1) before.2,
        c.in-Ok.ensures.items ∙ ap (λ (t : Target). c.loop-index.targets.items ++ t ∷ []) c.new.ensures ∙ ap (λ (ts : List Target). ts ++ target_down c.args.cluster c.loop-index.index false (shown disk) ∷ []) before.3
            ∙ sym (unfounded_push c.args.cluster 0 c.loop-index.index before.0 (shown disk) (omega (arith, before.2))),
      );
      count = omega (arith, c.in-Ok.ensures.len, c.loop-index.invariant.count);
      room = omega (arith, c.push.ensures.capacity, c.loop-index.invariant.room);
      left = omega (arith, c.remove-disk.ensures.len, c.loop-index.invariant.left);
      capacity = c.remove-disk.ensures.capacity ∙ c.loop-index.invariant.capacity;
    }
