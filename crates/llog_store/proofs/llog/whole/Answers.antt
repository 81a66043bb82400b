use Rattle.std.proofs.Common.{subst, sym, arith, List, ℕ}
use Rattle.std.proofs.lemmas.Result.{err_from_is_err_and}
use Rattle.llog_store.specs.Reading.{log_of}
use Rattle.llog_store.specs.Kept.{IsKept}
use Rattle.llog_store.proofs.Keeping.{kept_log, kept_now}
use Rattle.llog_store.proofs.Listing.{parts_kept, read_exact, read_fails}
use Rattle.llog_store.proofs.llog.whole.Goals as goal

pub returns-in_err-next : goal.returns-in_err-next
returns-in_err-next c =
    let p = err_from_is_err_and c.from_residual.result c.from_residual.ensures.1 in
    rw (p.1, p.2) (read_fails c.args.bytes.now c.in_err-next.field-0.0 c.in_err-next.ensures)

pub invariant_of-result : goal.invariant_of-result
invariant_of-result c =
    let k = parts_kept c.args.bytes.now c.in_ok-next.next c.in_ok-next.live c.in_ok-next.places.items (λ i. omega (arith, c.type_inv.bytes i)) c.in_ok-next.ensures in
    let now = subst (λ (b : List ℕ). IsKept k.0 b c.in_ok-next.places.items c.in_ok-next.next c.in_ok-next.live) (sym c.in_ok-bytes.ensures) k.2 in
    kept_now k.0 c.in_ok-bytes.bytes c.in_ok-next.places.items c.in_ok-next.next c.in_ok-next.live now

pub returns : goal.returns
returns c =
    let k = parts_kept c.args.bytes.now c.in_ok-next.next c.in_ok-next.live c.in_ok-next.places.items (λ i. omega (arith, c.type_inv.bytes i)) c.in_ok-next.ensures in
    let now = subst (λ (b : List ℕ). IsKept k.0 b c.in_ok-next.places.items c.in_ok-next.next c.in_ok-next.live) (sym c.in_ok-bytes.ensures) k.2 in
    read_exact c.args.bytes.now k.0 (log_of c.in_ok-bytes.bytes) k.1 (kept_log k.0 c.in_ok-bytes.bytes c.in_ok-next.places.items c.in_ok-next.next c.in_ok-next.live now)
