use Rattle.std.proofs.Common.{◌≡◌, true, false, Some, None, subst, sym, ◌∙◌}
use Rattle.std.specs.Option.{option_map}
use Rattle.llog_store.specs.Log.{Log, is_live}
use Rattle.llog_store.specs.Changes.{live_payload}
use Rattle.llog_store.specs.Kept.{IsKept}
use Rattle.llog_store.proofs.Seeing.{long_kept, marked_kept}
use Rattle.llog_store.proofs.Lending.{no_payload, with_index, live_first, lent}
use Rattle.llog_store.proofs.llog.Llog.payload.Goals as goal

pub has_live-requires : goal.has_live-requires
has_live-requires c = long_kept _ c.self.inside.bytes c.self.inside.places.items c.self.inside.next c.self.inside.live c.self.invariant

pub returns-then-not-has_live : goal.returns-then-not-has_live
returns-then-not-has_live c =
    let k = subst (λ (l : Log). IsKept l c.self.inside.bytes c.self.inside.places.items c.self.inside.next c.self.inside.live) c.self.view_is c.self.invariant in
    let dead : is_live c.args.self.now.entries c.args.index ≡ false = sym (marked_kept c.args.self.now c.self.inside.bytes c.self.inside.places.items c.self.inside.next c.self.inside.live c.args.index k) ∙ sym c.has_live.ensures ∙ c.if-not-has_live.true in
    sym (no_payload c.args.index c.args.self.now.entries dead)

pub returns-in_err-payload : goal.returns-in_err-payload
returns-in_err-payload c =
    let k = subst (λ (l : Log). IsKept l c.self.inside.bytes c.self.inside.places.items c.self.inside.next c.self.inside.live) c.self.view_is c.self.invariant in
    let es = c.args.self.now.entries in
    let alive : is_live es c.args.index ≡ true = sym (marked_kept c.args.self.now c.self.inside.bytes c.self.inside.places.items c.self.inside.next c.self.inside.live c.args.index k) ∙ sym c.has_live.ensures ∙ c.if-not-has_live.false in
    let found : None ≡ option_map (with_index c.args.index) (live_payload c.args.index es) = c.in_err-payload.ensures ∙ live_first 32768 1 c.args.index es c.args.self.now.next k.is.follows alive in
    rw c.from_residual.ensures (sym (lent c.args.index (live_payload c.args.index es) None found))

pub returns : goal.returns
returns c =
    let k = subst (λ (l : Log). IsKept l c.self.inside.bytes c.self.inside.places.items c.self.inside.next c.self.inside.live) c.self.view_is c.self.invariant in
    let es = c.args.self.now.entries in
    let alive : is_live es c.args.index ≡ true = sym (marked_kept c.args.self.now c.self.inside.bytes c.self.inside.places.items c.self.inside.next c.self.inside.live c.args.index k) ∙ sym c.has_live.ensures ∙ c.if-not-has_live.false in
    let found : Some (c.in_ok-payload.field-0-0, c.in_ok-payload.payload.now) ≡ option_map (with_index c.args.index) (live_payload c.args.index es) = c.in_ok-payload.ensures ∙ live_first 32768 1 c.args.index es c.args.self.now.next k.is.follows alive in
    sym (lent c.args.index (live_payload c.args.index es) (Some (c.in_ok-payload.field-0-0, c.in_ok-payload.payload.now)) found)
