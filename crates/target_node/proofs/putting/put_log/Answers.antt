use Rattle.std.proofs.Common.{◌∙◌, ◌++◌, ℕ, List, length, ap, subst, arith, length-append}
use Rattle.llog_store.specs.Log.{Log, log_text}
use Rattle.target_state.proofs.Lengths.{head_joined}
use Rattle.target_node.specs.Putting.{Pours}
use Rattle.target_node.proofs.Pouring.{pours_then}
use Rattle.target_node.proofs.putting.put_log.Goals as goal

pub put-requires-clause-room : goal.put-requires-clause-room
put-requires-clause-room g c =
    let log = c.args.state.now.log in
    let head = c.log_head.result in
    let all = ap length (head_joined log head c.log_head.ensures) in
    let both = length-append head (log_text log) in
    omega (arith, all, both, c.requires.room)

pub put_chunks-requires-clause-room : goal.put_chunks-requires-clause-room
put_chunks-requires-clause-room g c =
    let log = c.args.state.now.log in
    let head = c.log_head.result in
    let all = ap length (head_joined log head c.log_head.ensures) in
    let both = length-append head (log_text log) in
    let same = ap (λ (l : Log). length (log_text l)) c.log.ensures in
    omega (arith, all, both, same, c.in_ok-put.ensures.grows, c.requires.room)

pub returns : goal.returns
returns g c =
    let log = c.args.state.now.log in
    let head = c.log_head.result in
    let x = g.D.Disk.shown c.args.store.now.disk in
    let y = g.D.Disk.shown c.put.new.store.disk in
    let z = g.D.Disk.shown c.put_chunks.new.store.disk in
    let o = c.args.store.now.draft in
    let p = c.put.new.store.draft in
    let q = c.put_chunks.new.store.draft in
    let r = c.put_chunks.result in
    subst (λ (l : List ℕ). Pours r l x z o q) (ap (λ (m : Log). head ++ log_text m) c.log.ensures ∙ head_joined log head c.log_head.ensures)
    (pours_then r head (log_text c.log.result.now) x y z o p q c.in_ok-put.ensures c.put_chunks.ensures)
