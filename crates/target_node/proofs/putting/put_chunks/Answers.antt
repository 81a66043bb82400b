use Rattle.std.proofs.Common.{◌≡◌, ℕ, List, ap, sym, subst, arith, ◌∙◌}
use Rattle.std.proofs.lemmas.Result.{err_from_is_err_and}
use Rattle.llog_store.specs.Log.{log_text}
use Rattle.llog_store.specs.Chunked.{joined_to, chunk_at}
use Rattle.target_state.proofs.Chunking.{joined_none, joined_next, joined_short}
use Rattle.target_node.specs.Putting.{Puts}
use Rattle.target_node.proofs.Pouring.{puts_none, puts_then, breaks_then, pours_err}
use Rattle.target_node.proofs.putting.put_chunks.Goals as goal

pub loop-i-init : goal.loop-i-init
loop-i-init g c =
    let x = g.D.Disk.shown c.args.store.now.disk in
    let o = c.args.store.now.draft in
    subst (λ (l : List ℕ). Puts l x x o o) (sym (joined_none (log_text c.args.log.now))) (puts_none x o c.requires.begun)

pub put_chunk-requires-clause-room : goal.put_chunk-requires-clause-room
put_chunk-requires-clause-room g c = omega (arith, c.loop-i.invariant.grows, c.requires.room, joined_short (log_text c.args.log.now) c.loop-i.i)

pub loop-i-preserved : goal.loop-i-preserved
loop-i-preserved g c =
    let text = log_text c.args.log.now in
    let i = c.loop-i.i in
    let x = g.D.Disk.shown c.args.store.now.disk in
    let y = g.D.Disk.shown c.loop-i.store.disk in
    let z = g.D.Disk.shown c.put_chunk.new.store.disk in
    let o = c.args.store.now.draft in
    let q = c.put_chunk.new.store.draft in
    subst (λ (l : List ℕ). Puts l x z o q) (sym (joined_next text i)) (puts_then (joined_to text i) (chunk_at text i) x y z o c.loop-i.store.draft q c.loop-i.invariant c.in_ok-put_chunk.ensures)

pub returns-in_err-put_chunk : goal.returns-in_err-put_chunk
returns-in_err-put_chunk g c =
    let e = err_from_is_err_and c.from_residual.result c.from_residual.ensures.1 in
    let x = g.D.Disk.shown c.args.store.now.disk in
    let z = g.D.Disk.shown c.put_chunk.new.store.disk in
    pours_err c.from_residual.result (log_text c.args.log.now) x z c.args.store.now.draft c.put_chunk.new.store.draft e.0 e.1
    (breaks_then (joined_to (log_text c.args.log.now) c.loop-i.i) x (g.D.Disk.shown c.loop-i.store.disk) z c.args.store.now.draft c.loop-i.store.draft c.loop-i.invariant c.in_err-put_chunk.ensures)

pub returns : goal.returns
returns g c =
    let text = log_text c.args.log.now in
    let all : c.loop-i.i ≡ c.chunks-i-end.result = omega (arith, c.loop-i-test.false, c.loop-i.auto.i-end) in
    subst (λ (l : List ℕ). Puts l (g.D.Disk.shown c.args.store.now.disk) (g.D.Disk.shown c.loop-i.store.disk) c.args.store.now.draft c.loop-i.store.draft)
    (ap (λ (k : ℕ). joined_to text k) all ∙ c.chunks-i-end.ensures.joined) c.loop-i.invariant
