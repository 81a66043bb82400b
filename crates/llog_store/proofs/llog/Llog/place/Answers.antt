use Rattle.std.proofs.Common.{◌≡◌, false, subst, sym, ◌∙◌, arith, List}
use Rattle.llog_store.specs.declared.place.Place.{Place}
use Rattle.llog_store.specs.Log.{Log, is_live}
use Rattle.llog_store.specs.Kept.{IsKept}
use Rattle.llog_store.proofs.Asking.{most_kept}
use Rattle.llog_store.proofs.Seeing.{long_kept, marked_kept, within_kept}
use Rattle.llog_store.proofs.Passing.{rising_kept}
use Rattle.llog_store.proofs.Standing.{no_place, standing}
use Rattle.llog_store.proofs.llog.Llog.place.Goals as goal

pub has_live-requires : goal.has_live-requires
has_live-requires c = long_kept _ c.self.inside.bytes c.self.inside.places.items c.self.inside.next c.self.inside.live c.self.invariant

pub returns-then-not-has_live : goal.returns-then-not-has_live
returns-then-not-has_live c =
    let k = subst (λ (l : Log). IsKept l c.self.inside.bytes c.self.inside.places.items c.self.inside.next c.self.inside.live) c.self.view_is c.self.invariant in
    let dead : is_live c.args.self.now.entries c.args.index ≡ false = sym (marked_kept c.args.self.now c.self.inside.bytes c.self.inside.places.items c.self.inside.next c.self.inside.live c.args.index k) ∙ sym c.has_live.ensures ∙ c.if-not-has_live.true in
    sym (no_place 32768 c.args.index c.args.self.now.entries dead)

pub count_before-requires : goal.count_before-requires
count_before-requires c = rw c.as_slice-places.ensures.value (rising_kept _ c.self.inside.bytes c.self.inside.places.items c.self.inside.next c.self.inside.live c.self.invariant)

pub bounds-places-count_before : goal.bounds-places-count_before
bounds-places-count_before c =
    let k = subst (λ (l : Log). IsKept l c.self.inside.bytes c.self.inside.places.items c.self.inside.next c.self.inside.live) c.self.view_is c.self.invariant in
    let places = c.as_slice-places.result.now in
    let k2 = subst (λ (ps : List Place). IsKept c.args.self.now c.self.inside.bytes ps c.self.inside.next c.self.inside.live) (sym c.as_slice-places.ensures.value) k in
    let there = standing c.args.self.now c.self.inside.bytes places c.self.inside.next c.self.inside.live c.args.index c.count_before.result k2 (sym c.has_live.ensures ∙ c.if-not-has_live.false) c.count_before.ensures.before c.count_before.ensures.from in
    there.0

pub overflow_add-result : goal.overflow_add-result
overflow_add-result c =
    let k = subst (λ (l : Log). IsKept l c.self.inside.bytes c.self.inside.places.items c.self.inside.next c.self.inside.live) c.self.view_is c.self.invariant in
    let places = c.as_slice-places.result.now in
    let k2 = subst (λ (ps : List Place). IsKept c.args.self.now c.self.inside.bytes ps c.self.inside.next c.self.inside.live) (sym c.as_slice-places.ensures.value) k in
    let there = standing c.args.self.now c.self.inside.bytes places c.self.inside.next c.self.inside.live c.args.index c.count_before.result k2 (sym c.has_live.ensures ∙ c.if-not-has_live.false) c.count_before.ensures.before c.count_before.ensures.from in
    let within = within_kept c.args.self.now c.self.inside.bytes places c.self.inside.next c.self.inside.live k2 c.count_before.result (record { index = 0; at = 0; length = 0 }) there.0 in
    omega (arith, within.0, most_kept _ c.self.inside.bytes c.self.inside.places.items c.self.inside.next c.self.inside.live c.self.invariant)

pub returns : goal.returns
returns c =
    let k = subst (λ (l : Log). IsKept l c.self.inside.bytes c.self.inside.places.items c.self.inside.next c.self.inside.live) c.self.view_is c.self.invariant in
    let places = c.as_slice-places.result.now in
    let k2 = subst (λ (ps : List Place). IsKept c.args.self.now c.self.inside.bytes ps c.self.inside.next c.self.inside.live) (sym c.as_slice-places.ensures.value) k in
    let there = standing c.args.self.now c.self.inside.bytes places c.self.inside.next c.self.inside.live c.args.index c.count_before.result k2 (sym c.has_live.ensures ∙ c.if-not-has_live.false) c.count_before.ensures.before c.count_before.ensures.from in
    sym (there.1 (record { index = 0; at = 0; length = 0 }))
