use Rattle.std.proofs.Common.{◌∙◌, subst, refl}
use Rattle.llog_store.specs.Log.{Log}
use Rattle.llog_store.specs.Kept.{IsKept}
use Rattle.llog_store.proofs.Seeing.{long_kept, within_kept}
use Rattle.llog_store.proofs.Passing.{wanted_is, pack_some, pack_none}
use Rattle.llog_store.proofs.llog.Llog.pack.Goals as goal

pub pack_records-requires-clause-long : goal.pack_records-requires-clause-long
pack_records-requires-clause-long c = (long_kept _ c.self.inside.bytes c.self.inside.places.items c.self.inside.next c.self.inside.live c.self.invariant)

pub pack_records-requires-clause-within : goal.pack_records-requires-clause-within
pack_records-requires-clause-within c = rw c.as_slice.ensures.value (within_kept _ c.self.inside.bytes c.self.inside.places.items c.self.inside.next c.self.inside.live c.self.invariant)

pub returns-in-Some-clause-ok : goal.returns-in-Some-clause-ok
returns-in-Some-clause-ok c =
    let k = subst (λ (l : Log). IsKept l c.self.inside.bytes c.self.inside.places.items c.self.inside.next c.self.inside.live) c.self.view_is c.self.invariant in
    let wanted = wanted_is c.args.self.now c.self.inside.bytes c.self.inside.bytes c.self.inside.places.items c.as_slice.result.now c.self.inside.next c.self.inside.live k refl c.as_slice.ensures.value in
    c.drop.view_is ∙ pack_some c.args.self.now c.in-Some.log _ c.in_ok-packed.packed wanted c.in-Some.is c.in_ok-packed.ensures

pub returns-in_default-clause-ok : goal.returns-in_default-clause-ok
returns-in_default-clause-ok c =
    let k = subst (λ (l : Log). IsKept l c.self.inside.bytes c.self.inside.places.items c.self.inside.next c.self.inside.live) c.self.view_is c.self.invariant in
    let wanted = wanted_is c.args.self.now c.self.inside.bytes c.self.inside.bytes c.self.inside.places.items c.as_slice.result.now c.self.inside.next c.self.inside.live k refl c.as_slice.ensures.value in
    pack_none c.args.self.now _ c.in_ok-packed.packed wanted c.in_default.is c.in_ok-packed.ensures
