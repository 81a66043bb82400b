use Rattle.std.proofs.Common.{◌≡◌, ◌<◌, ℕ, List, length, take, subst, arith, ◌∙◌, refl}
use Rattle.std.proofs.lemmas.List.{take_all}
use Rattle.std.proofs.lemmas.Result.{err_from_is_err_and}
use Rattle.object_store.specs.ImageText.{image_text}
use Rattle.target_disk.specs.Tables.{image_most}
use Rattle.target_node.specs.Putting.{Puts}
use Rattle.target_node.proofs.Pouring.{Copies, puts_none, breaks_then, pours_err, few, kept, piece_fits, piece_put, left_is}
use Rattle.target_node.proofs.putting.put_objects.Goals as goal

pub loop-at-init : goal.loop-at-init
loop-at-init g c = record {
  inside = omega arith;
  whole = c.size-size.ensures.value;
  left = c.pieces-pieces.ensures;
  room = refl;
  puts = puts_none (g.D.Disk.shown c.args.store.now.disk) c.args.store.now.draft c.requires.begun;
}

pub put-requires-clause-room : goal.put-requires-clause-room
put-requires-clause-room g c =
    let text = image_text c.args.objects.now in
    let inv = c.loop-at.invariant in
    let some : 0 < length c.loop-at.buffer = omega (arith, inv.room) in
    let copies : Copies text c.loop-at.at c.copy_next-n.result c.size-size.result c.loop-at.pieces c.loop-at.buffer c.copy_next-n.new.into = (inv.whole, (inv.left, (c.loop-at-test.true, (some, (c.copy_next-n.ensures.count, c.copy_next-n.ensures.bytes))))) in
    piece_fits text c.loop-at.at c.copy_next-n.result c.size-size.result c.loop-at.pieces c.loop-at.buffer c.copy_next-n.new.into image_most c.args.store.now.draft c.loop-at.store.draft
    (g.D.Disk.shown c.args.store.now.disk) (g.D.Disk.shown c.loop-at.store.disk) copies inv.puts c.requires.room

pub loop-at-preserved : goal.loop-at-preserved
loop-at-preserved g c =
    let text = image_text c.args.objects.now in
    let inv = c.loop-at.invariant in
    let at = c.loop-at.at in
    let n = c.copy_next-n.result in
    let size = c.size-size.result in
    let pieces = c.loop-at.pieces in
    let buffer = c.loop-at.buffer in
    let into = c.copy_next-n.new.into in
    let some : 0 < length buffer = omega (arith, inv.room) in
    let copies : Copies text at n size pieces buffer into = (inv.whole, (inv.left, (c.loop-at-test.true, (some, (c.copy_next-n.ensures.count, c.copy_next-n.ensures.bytes))))) in
    record {
      inside = (few text at n size pieces buffer into copies).1;
      whole = inv.whole;
      left = left_is text at n size pieces buffer into c.copy_next-n.new.self copies c.copy_next-n.ensures.left;
      room = kept text at n size pieces buffer into copies ∙ inv.room;
      puts = piece_put text at n size pieces buffer into c.args.store.now.draft c.loop-at.store.draft c.put.new.store.draft
          (g.D.Disk.shown c.args.store.now.disk) (g.D.Disk.shown c.loop-at.store.disk) (g.D.Disk.shown c.put.new.store.disk) copies inv.puts c.in_ok-put.ensures;
    }

pub returns-in_err-put : goal.returns-in_err-put
returns-in_err-put g c =
    let e = err_from_is_err_and c.from_residual.result c.from_residual.ensures.1 in
    let x = g.D.Disk.shown c.args.store.now.disk in
    let z = g.D.Disk.shown c.put.new.store.disk in
    pours_err c.from_residual.result (image_text c.args.objects.now) x z c.args.store.now.draft c.put.new.store.draft e.0 e.1
    (breaks_then (take c.loop-at.at (image_text c.args.objects.now)) x (g.D.Disk.shown c.loop-at.store.disk) z c.args.store.now.draft c.loop-at.store.draft c.loop-at.invariant.puts c.in_err-put.ensures)

pub returns : goal.returns
returns g c =
    let text = image_text c.args.objects.now in
    let inv = c.loop-at.invariant in
    let all : length text ≡ c.loop-at.at = omega (arith, inv.inside, inv.whole, c.loop-at-test.false) in
    subst (λ (l : List ℕ). Puts l (g.D.Disk.shown c.args.store.now.disk) (g.D.Disk.shown c.loop-at.store.disk) c.args.store.now.draft c.loop-at.store.draft)
    (take_all c.loop-at.at text (omega (arith, all))) inv.puts
