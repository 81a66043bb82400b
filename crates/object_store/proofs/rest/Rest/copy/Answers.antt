use Rattle.std.proofs.Common.{◌-◌, length, drop, ap, ◌∙◌, arith, length-drop, drop-drop}
use Rattle.std.proofs.lemmas.List.{length-take}
use Rattle.object_store.specs.Pieces.{left_text}
use Rattle.object_store.proofs.Laid.{laid_on}
use Rattle.object_store.proofs.rest.Rest.copy.Goals as goal

pub loop-done-preserved : goal.loop-done-preserved
loop-done-preserved c =
    let text = left_text c.args.self.now in
    let done = c.loop-done.done in
    let n = c.copy_some-count.result in
    let left = ap length c.loop-done.invariant.left in
    let rest = length-drop done text in
    let few = c.copy_some-count.ensures.there in
    let room = c.copy_some-count.ensures.room in
    let part = length-take (length c.loop-done.into - done) (drop done c.loop-done.into) in
    let same = c.loop-done.auto.into in
    let was = c.loop-done.invariant.there in
    let here = c.loop-done.invariant.room in
    record {
      there = omega (arith, left, rest, few, was);
      room = omega (arith, room, part, same, here);
      bytes = laid_on text c.args.into.now c.loop-done.into c.copy_some-count.new.into (left_text c.loop-done.self) done n was here c.loop-done.invariant.bytes c.loop-done.invariant.left c.copy_some-count.ensures.bytes;
      left = c.copy_some-count.ensures.left ∙ ap (drop n) c.loop-done.invariant.left ∙ drop-drop n done text;
      fits = c.copy_some-count.ensures.fits;
    }
