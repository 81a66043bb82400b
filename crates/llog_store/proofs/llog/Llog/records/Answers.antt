use Rattle.std.proofs.Common.{arith, length, ap, ◌∙◌}
use Rattle.llog_store.specs.Log.{Log}
use Rattle.llog_store.specs.Kept.{IsKept}
use Rattle.std.proofs.Common.{subst}
use Rattle.llog_store.proofs.Seeing.{count_kept}
use Rattle.llog_store.proofs.llog.Llog.records.Goals as goal

pub overflow_cast-result : goal.overflow_cast-result
overflow_cast-result c =
    let k = subst (λ (l : Log). IsKept l c.self.inside.bytes c.self.inside.places.items c.self.inside.next c.self.inside.live) c.self.view_is c.self.invariant in
    let count = count_kept c.args.self.now c.self.inside.bytes c.self.inside.places.items c.self.inside.next c.self.inside.live k in
    omega (arith, count, ap length c.as_slice.ensures.value)

pub returns : goal.returns
returns c =
    let k = subst (λ (l : Log). IsKept l c.self.inside.bytes c.self.inside.places.items c.self.inside.next c.self.inside.live) c.self.view_is c.self.invariant in
    let count = count_kept c.args.self.now c.self.inside.bytes c.self.inside.places.items c.self.inside.next c.self.inside.live k in
    ap length c.as_slice.ensures.value ∙ count.0
