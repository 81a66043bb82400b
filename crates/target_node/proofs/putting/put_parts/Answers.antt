use Rattle.std.proofs.Common.{◌∙◌, ◌++◌, ℕ, List, length, ap, subst, arith}
use Rattle.std.proofs.lemmas.Result.{err_from_is_err_and}
use Rattle.target_state.specs.Image.{state_text}
use Rattle.object_store.specs.Objects.{ObjectMap}
use Rattle.object_store.specs.ImageText.{image_text}
use Rattle.state_image.specs.StateText.{log_part}
use Rattle.target_node.specs.Putting.{Pours}
use Rattle.target_node.proofs.Pouring.{pours_then, pours_err, puts_then, breaks_then, parts_room, parts_joined}
use Rattle.target_node.proofs.putting.put_parts.Goals as goal

pub put-requires-clause-room : goal.put-requires-clause-room
put-requires-clause-room g c = omega (arith, ap length c.requires.front, parts_room c.args.state.now, c.requires.room)

pub put_objects-requires-clause-room : goal.put_objects-requires-clause-room
put_objects-requires-clause-room g c =
    let same = ap (λ (m : ObjectMap). length (image_text m)) c.objects.ensures in
    omega (arith, ap length c.requires.front, parts_room c.args.state.now, same, c.in_ok-put.ensures.grows, c.requires.room)

pub put_log-requires-clause-room : goal.put_log-requires-clause-room
put_log-requires-clause-room g c =
    let same = ap (λ (m : ObjectMap). length (image_text m)) c.objects.ensures in
    omega (arith, ap length c.requires.front, parts_room c.args.state.now, same, c.in_ok-put.ensures.grows, c.in_ok-put_objects.ensures.grows, c.requires.room)

pub returns-in_err-put_objects : goal.returns-in_err-put_objects
returns-in_err-put_objects g c =
    let e = err_from_is_err_and c.from_residual-in_err-put_objects.result c.from_residual-in_err-put_objects.ensures.1 in
    let x = g.D.Disk.shown c.args.store.now.disk in
    let z = g.D.Disk.shown c.put_objects.new.store.disk in
    pours_err c.from_residual-in_err-put_objects.result (state_text c.args.state.now) x z c.args.store.now.draft c.put_objects.new.store.draft e.0 e.1
    (breaks_then c.args.front.now x (g.D.Disk.shown c.put.new.store.disk) z c.args.store.now.draft c.put.new.store.draft c.in_ok-put.ensures c.in_err-put_objects.ensures)

pub returns : goal.returns
returns g c =
    let s = c.args.state.now in
    let front = c.args.front.now in
    let objects = image_text c.objects.result.now in
    let x = g.D.Disk.shown c.args.store.now.disk in
    let y = g.D.Disk.shown c.put.new.store.disk in
    let z = g.D.Disk.shown c.put_objects.new.store.disk in
    let w = g.D.Disk.shown c.put_log.new.store.disk in
    let o = c.args.store.now.draft in
    let p = c.put.new.store.draft in
    let q = c.put_objects.new.store.draft in
    let t = c.put_log.new.store.draft in
    let r = c.put_log.result in
    subst (λ (l : List ℕ). Pours r l x w o t) (ap (λ (m : ObjectMap). (front ++ image_text m) ++ log_part s.log) c.objects.ensures ∙ parts_joined s front c.requires.front)
    (pours_then r (front ++ objects) (log_part s.log) x z w o q t (puts_then front objects x y z o p q c.in_ok-put.ensures c.in_ok-put_objects.ensures) c.put_log.ensures)
