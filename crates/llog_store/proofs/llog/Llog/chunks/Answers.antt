use Rattle.std.proofs.Common.{◌≡◌, ap, subst, ◌∙◌, arith}
use Rattle.llog_store.specs.Chunked.{chunk_count}
use Rattle.llog_store.specs.Log.{Log, log_text}
use Rattle.llog_store.specs.Kept.{IsKept}
use Rattle.llog_store.proofs.Asking.{most_kept}
use Rattle.llog_store.proofs.Filling.{joined_all}
use Rattle.llog_store.proofs.llog.Llog.chunks.Goals as goal

pub overflow_cast-result : goal.overflow_cast-result
overflow_cast-result c = omega (arith, c.count.ensures, most_kept _ c.self.inside.bytes c.self.inside.places.items c.self.inside.next c.self.inside.live c.self.invariant)

pub returns-clause-joined : goal.returns-clause-joined
returns-clause-joined c =
    let k = subst (λ (l : Log). IsKept l c.self.inside.bytes c.self.inside.places.items c.self.inside.next c.self.inside.live) c.self.view_is c.self.invariant in
    let is : c.count.result ≡ chunk_count (log_text c.args.self.now) = c.count.ensures ∙ ap chunk_count k.text in
    joined_all (log_text c.args.self.now) c.count.result is
