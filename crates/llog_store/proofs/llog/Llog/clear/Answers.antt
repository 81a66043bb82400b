use Rattle.std.proofs.Common.{[], sym, subst, List, ℕ}
use Rattle.llog_store.specs.Log.{empty_log}
use Rattle.llog_store.specs.Kept.{IsKept}
use Rattle.llog_store.proofs.Keeping.{kept_now, kept_log, clear_kept}
use Rattle.llog_store.proofs.Seeing.{long_kept}
use Rattle.llog_store.proofs.llog.Llog.clear.Goals as goal

pub set_empty-requires : goal.set_empty-requires
set_empty-requires c = long_kept _ c.self.inside.bytes c.self.inside.places.items c.self.inside.next c.self.inside.live c.self.invariant

pub invariant_of-self : goal.invariant_of-self
invariant_of-self c =
    let kept = clear_kept _ c.self.inside.bytes c.self.inside.places.items c.self.inside.next c.self.inside.live c.self.invariant in
    let now = subst (λ (b : List ℕ). IsKept empty_log b [] 1 0) (sym c.set_empty.ensures) kept in
    rw c.clear.ensures.items (kept_now empty_log c.set_empty.new.self [] 1 0 now)

pub returns : goal.returns
returns c =
    let kept = clear_kept _ c.self.inside.bytes c.self.inside.places.items c.self.inside.next c.self.inside.live c.self.invariant in
    let now = subst (λ (b : List ℕ). IsKept empty_log b [] 1 0) (sym c.set_empty.ensures) kept in
    kept_log empty_log c.set_empty.new.self [] 1 0 now
