use Rattle.std.proofs.Common.{◌≡◌, Some, None, Option, ap, subst, sym, ◌∙◌, drop, length, List}
use Rattle.std.specs.Option.{option_map}
use Rattle.std.proofs.lemmas.List.{take_rest}
use Rattle.llog_store.specs.declared.place.Place.{Place}
use Rattle.llog_store.specs.Reading.{log_of}
use Rattle.llog_store.specs.Log.{Log}
use Rattle.llog_store.specs.Kept.{IsKept, first_marked}
use Rattle.llog_store.proofs.Seeing.{long_kept, within_kept}
use Rattle.llog_store.proofs.Passing.{rising_kept, shown, walked, found_within, within_drop}
use Rattle.llog_store.proofs.llog.Llog.walk.Goals as goal

pub count_before-first-requires : goal.count_before-first-requires
count_before-first-requires c = rw c.as_slice-places.ensures.value (rising_kept _ c.self.inside.bytes c.self.inside.places.items c.self.inside.next c.self.inside.live c.self.invariant)

pub first_marked-requires : goal.first_marked-requires
first_marked-requires c = (long_kept _ c.self.inside.bytes c.self.inside.places.items c.self.inside.next c.self.inside.live c.self.invariant)

pub returns-in_err-place : goal.returns-in_err-place
returns-in_err-place c =
    let k = subst (λ (l : Log). IsKept l c.self.inside.bytes c.self.inside.places.items c.self.inside.next c.self.inside.live) c.self.view_is c.self.invariant in
    let first = c.count_before-first.result in
    let places = c.as_slice-places.result.now in
    let k2 = subst (λ (ps : List Place). IsKept c.args.self.now c.self.inside.bytes ps c.self.inside.next c.self.inside.live) (sym c.as_slice-places.ensures.value) k in
    let w = walked c.args.self.now c.self.inside.bytes places c.self.inside.next c.self.inside.live c.args.from first k2 c.count_before-first.ensures.bound c.count_before-first.ensures.before c.count_before-first.ensures.from in
    let none : first_marked c.self.inside.bytes (drop first places) ≡ None = ap (λ (ps : List Place). first_marked c.self.inside.bytes ps) (sym (take_rest places first)) ∙ sym c.in_err-place.ensures in
    rw c.from_residual.ensures (sym (ap (λ (o : Option Place). option_map (shown c.self.inside.bytes) o) none) ∙ w)

pub payload_of-requires : goal.payload_of-requires
payload_of-requires c =
    let first = c.count_before-first.result in
    let places = c.as_slice-places.result.now in
    let k2 = subst (λ (ps : List Place). IsKept (log_of c.self.inside.bytes) c.self.inside.bytes ps c.self.inside.next c.self.inside.live) (sym c.as_slice-places.ensures.value) c.self.invariant in
    let some : first_marked c.self.inside.bytes (drop first places) ≡ Some c.in_ok-place.place = ap (λ (ps : List Place). first_marked c.self.inside.bytes ps) (sym (take_rest places first)) ∙ sym c.in_ok-place.ensures in
    let within = within_kept _ c.self.inside.bytes places c.self.inside.next c.self.inside.live k2 in
    let found = found_within c.self.inside.bytes (length c.self.inside.bytes) (drop first places) c.in_ok-place.place some (within_drop (length c.self.inside.bytes) first places within c.count_before-first.ensures.bound) in
    found

pub returns : goal.returns
returns c =
    let k = subst (λ (l : Log). IsKept l c.self.inside.bytes c.self.inside.places.items c.self.inside.next c.self.inside.live) c.self.view_is c.self.invariant in
    let first = c.count_before-first.result in
    let places = c.as_slice-places.result.now in
    let k2 = subst (λ (ps : List Place). IsKept c.args.self.now c.self.inside.bytes ps c.self.inside.next c.self.inside.live) (sym c.as_slice-places.ensures.value) k in
    let w = walked c.args.self.now c.self.inside.bytes places c.self.inside.next c.self.inside.live c.args.from first k2 c.count_before-first.ensures.bound c.count_before-first.ensures.before c.count_before-first.ensures.from in
    let some : first_marked c.self.inside.bytes (drop first places) ≡ Some c.in_ok-place.place = ap (λ (ps : List Place). first_marked c.self.inside.bytes ps) (sym (take_rest places first)) ∙ sym c.in_ok-place.ensures in
    rw c.payload_of.ensures (sym (ap (λ (o : Option Place). option_map (shown c.self.inside.bytes) o) some) ∙ w)
