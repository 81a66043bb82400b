use Rattle.std.proofs.Common.{◌-◌, subst, sym, ◌∙◌, List, ℕ}
use Rattle.llog_store.specs.Log.{Log}
use Rattle.llog_store.specs.Kept.{IsKept}
use Rattle.llog_store.specs.Changes.{cancelled}
use Rattle.llog_store.proofs.Keeping.{kept_now, kept_log, cancel_kept}
use Rattle.llog_store.proofs.Seeing.{long_kept, marked_kept}
use Rattle.llog_store.proofs.Asking.{low_marked, some_live}
use Rattle.llog_store.proofs.llog.Llog.cancel.Goals as goal

pub has_live-requires : goal.has_live-requires
has_live-requires c = (long_kept _ c.self.inside.bytes c.self.inside.places.items c.self.inside.next c.self.inside.live c.self.invariant)

pub returns-then-not-has_live-clause-not_live : goal.returns-then-not-has_live-clause-not_live
returns-then-not-has_live-clause-not_live c =
    let k = subst (λ (l : Log). IsKept l c.self.inside.bytes c.self.inside.places.items c.self.inside.next c.self.inside.live) c.self.view_is c.self.invariant in
    sym (marked_kept c.args.self.now c.self.inside.bytes c.self.inside.places.items c.self.inside.next c.self.inside.live c.args.index k) ∙ sym c.has_live.ensures ∙ c.if-not-has_live.true

pub overflow_sub-self : goal.overflow_sub-self
overflow_sub-self c =
    let k = subst (λ (l : Log). IsKept l c.self.inside.bytes c.self.inside.places.items c.self.inside.next c.self.inside.live) c.self.view_is c.self.invariant in
    let alive = sym (marked_kept c.args.self.now c.self.inside.bytes c.self.inside.places.items c.self.inside.next c.self.inside.live c.args.index k) ∙ sym c.has_live.ensures ∙ c.if-not-has_live.false in
    some_live c.args.self.now c.self.inside.bytes c.self.inside.places.items c.self.inside.next c.self.inside.live c.args.index k alive

pub set_cancelled-requires-clause-long : goal.set_cancelled-requires-clause-long
set_cancelled-requires-clause-long c = long_kept _ c.self.inside.bytes c.self.inside.places.items c.self.inside.next c.self.inside.live c.self.invariant

pub set_cancelled-requires-clause-low : goal.set_cancelled-requires-clause-low
set_cancelled-requires-clause-low c = low_marked c.self.inside.bytes c.args.index (sym c.has_live.ensures ∙ c.if-not-has_live.false)

pub invariant_of-self : goal.invariant_of-self
invariant_of-self c =
    let k = subst (λ (l : Log). IsKept l c.self.inside.bytes c.self.inside.places.items c.self.inside.next c.self.inside.live) c.self.view_is c.self.invariant in
    let alive = sym (marked_kept c.args.self.now c.self.inside.bytes c.self.inside.places.items c.self.inside.next c.self.inside.live c.args.index k) ∙ sym c.has_live.ensures ∙ c.if-not-has_live.false in
    let low = low_marked c.self.inside.bytes c.args.index (sym c.has_live.ensures ∙ c.if-not-has_live.false) in
    let kept = cancel_kept c.args.self.now c.self.inside.bytes c.self.inside.places.items c.self.inside.next c.self.inside.live c.args.index k alive low in
    let now = subst (λ (b : List ℕ). IsKept (cancelled c.args.self.now c.args.index) b c.self.inside.places.items c.self.inside.next (c.self.inside.live - 1)) (sym c.set_cancelled.ensures) kept in
    kept_now (cancelled c.args.self.now c.args.index) c.set_cancelled.new.self c.self.inside.places.items c.self.inside.next (c.self.inside.live - 1) now

pub returns-clause-ok : goal.returns-clause-ok
returns-clause-ok c =
    let k = subst (λ (l : Log). IsKept l c.self.inside.bytes c.self.inside.places.items c.self.inside.next c.self.inside.live) c.self.view_is c.self.invariant in
    let alive = sym (marked_kept c.args.self.now c.self.inside.bytes c.self.inside.places.items c.self.inside.next c.self.inside.live c.args.index k) ∙ sym c.has_live.ensures ∙ c.if-not-has_live.false in
    let low = low_marked c.self.inside.bytes c.args.index (sym c.has_live.ensures ∙ c.if-not-has_live.false) in
    let kept = cancel_kept c.args.self.now c.self.inside.bytes c.self.inside.places.items c.self.inside.next c.self.inside.live c.args.index k alive low in
    let now = subst (λ (b : List ℕ). IsKept (cancelled c.args.self.now c.args.index) b c.self.inside.places.items c.self.inside.next (c.self.inside.live - 1)) (sym c.set_cancelled.ensures) kept in
    kept_log (cancelled c.args.self.now c.args.index) c.set_cancelled.new.self c.self.inside.places.items c.self.inside.next (c.self.inside.live - 1) now

pub returns-clause-live : goal.returns-clause-live
returns-clause-live c =
    let k = subst (λ (l : Log). IsKept l c.self.inside.bytes c.self.inside.places.items c.self.inside.next c.self.inside.live) c.self.view_is c.self.invariant in
    sym (marked_kept c.args.self.now c.self.inside.bytes c.self.inside.places.items c.self.inside.next c.self.inside.live c.args.index k) ∙ sym c.has_live.ensures ∙ c.if-not-has_live.false
