use Rattle.std.proofs.Common.{◌≡◌, ◌+◌, ap, subst, ◌∙◌, arith, length, ℕ, cond, eqb}
use Rattle.std.proofs.lemmas.Result.{err_from_is_err_and}
use Rattle.std.proofs.lemmas.List.{length-append}
use Rattle.llog_store.specs.Log.{Log, record_size}
use Rattle.llog_store.specs.Kept.{IsKept, lost_before, behind_pad}
use Rattle.llog_store.specs.Changes.{given_index, appended}
use Rattle.llog_store.proofs.Keeping.{kept_now, kept_log, append_kept}
use Rattle.llog_store.proofs.Seeing.{long_kept}
use Rattle.llog_store.proofs.Asking.{next_kept, lost_is, index_kept, refuses_long, refuses_full, refuses_none, refuses_memory, index_some, grown_kept, room_is, lost_less, most_kept}
use Rattle.llog_store.proofs.llog.Llog.append.Goals as goal

pub returns-then-n-gt-MAX_PAYLOAD-clause-refuses : goal.returns-then-n-gt-MAX_PAYLOAD-clause-refuses
returns-then-n-gt-MAX_PAYLOAD-clause-refuses c = refuses_long c.args.self.now c.args.payload.now c.if-n-gt-MAX_PAYLOAD.true

pub returns-then-index-ge-END_OF_INDEXES-clause-refuses : goal.returns-then-index-ge-END_OF_INDEXES-clause-refuses
returns-then-index-ge-END_OF_INDEXES-clause-refuses c =
    let k = subst (λ (l : Log). IsKept l c.self.inside.bytes c.self.inside.places.items c.self.inside.next c.self.inside.live) c.self.view_is c.self.invariant in
    let end : c.len.result ≡ length c.self.inside.bytes = c.len.ensures in
    let lost : c.pad_before-lost.result ≡ lost_before (length c.self.inside.bytes) (record_size (length c.args.payload.now)) = c.pad_before-lost.ensures ∙ ap (λ (n : ℕ). lost_before n c.record_size.result) end ∙ ap (λ (n : ℕ). lost_before (length c.self.inside.bytes) n) c.record_size.ensures.value in
    let index : c.index_behind-index.result ≡ given_index c.args.self.now c.args.payload.now = c.index_behind-index.ensures ∙ ap (λ (n : ℕ). cond (eqb n 0) c.self.inside.next (c.self.inside.next + 1)) lost ∙ index_kept c.args.self.now c.self.inside.bytes c.self.inside.places.items c.self.inside.next c.self.inside.live c.args.payload.now k in
    refuses_full c.args.self.now c.args.payload.now c.self.inside.next c.if-n-gt-MAX_PAYLOAD.false (omega (arith, index, c.if-index-ge-END_OF_INDEXES.true)) k.next_is

pub grow-requires-clause-lost : goal.grow-requires-clause-lost
grow-requires-clause-lost c =
    let k = subst (λ (l : Log). IsKept l c.self.inside.bytes c.self.inside.places.items c.self.inside.next c.self.inside.live) c.self.view_is c.self.invariant in
    rw (c.pad_before-lost.ensures, c.len.ensures, c.record_size.ensures.value) (lost_is c.args.self.now c.self.inside.bytes c.self.inside.places.items c.self.inside.next c.self.inside.live (length c.args.payload.now) k)

pub grow-requires-clause-room : goal.grow-requires-clause-room
grow-requires-clause-room c =
    rw (c.pad_before-lost.ensures, c.len.ensures, c.record_size.ensures.value) (room_is (length c.self.inside.bytes) c.args.payload.now c.if-n-gt-MAX_PAYLOAD.false)

pub grow-requires-clause-less : goal.grow-requires-clause-less
grow-requires-clause-less c =
    rw (c.pad_before-lost.ensures, c.len.ensures, c.record_size.ensures.value) (lost_less (length c.self.inside.bytes) (length c.args.payload.now) c.if-n-gt-MAX_PAYLOAD.false)

pub grow-requires-clause-long : goal.grow-requires-clause-long
grow-requires-clause-long c =
    omega (arith, most_kept _ c.self.inside.bytes c.self.inside.places.items c.self.inside.next c.self.inside.live c.self.invariant)

pub grow-requires-clause-index : goal.grow-requires-clause-index
grow-requires-clause-index c =
    let k = subst (λ (l : Log). IsKept l c.self.inside.bytes c.self.inside.places.items c.self.inside.next c.self.inside.live) c.self.view_is c.self.invariant in
    let n = next_kept c.args.self.now c.self.inside.bytes c.self.inside.places.items c.self.inside.next c.self.inside.live k in
    index_some c.pad_before-lost.result c.self.inside.next c.index_behind-index.result n.0 c.index_behind-index.ensures

pub returns-in_err-grow-clause-refuses : goal.returns-in_err-grow-clause-refuses
returns-in_err-grow-clause-refuses c =
    let k = subst (λ (l : Log). IsKept l c.self.inside.bytes c.self.inside.places.items c.self.inside.next c.self.inside.live) c.self.view_is c.self.invariant in
    let end : c.len.result ≡ length c.self.inside.bytes = c.len.ensures in
    let lost : c.pad_before-lost.result ≡ lost_before (length c.self.inside.bytes) (record_size (length c.args.payload.now)) = c.pad_before-lost.ensures ∙ ap (λ (n : ℕ). lost_before n c.record_size.result) end ∙ ap (λ (n : ℕ). lost_before (length c.self.inside.bytes) n) c.record_size.ensures.value in
    let index : c.index_behind-index.result ≡ given_index c.args.self.now c.args.payload.now = c.index_behind-index.ensures ∙ ap (λ (n : ℕ). cond (eqb n 0) c.self.inside.next (c.self.inside.next + 1)) lost ∙ index_kept c.args.self.now c.self.inside.bytes c.self.inside.places.items c.self.inside.next c.self.inside.live c.args.payload.now k in
    let p = err_from_is_err_and c.from_residual.result c.from_residual.ensures.1 in
    rw (p.1, p.2) (refuses_memory c.args.self.now c.args.payload.now c.if-n-gt-MAX_PAYLOAD.false (omega (arith, index, c.if-index-ge-END_OF_INDEXES.false)))

pub overflow_add-self-2 : goal.overflow_add-self-2
overflow_add-self-2 c =
    let n = next_kept _ c.self.inside.bytes c.self.inside.places.items c.self.inside.next c.self.inside.live c.self.invariant in
    omega (arith, n)

pub set_live-requires-clause-long : goal.set_live-requires-clause-long
set_live-requires-clause-long c =
    let long = long_kept _ c.self.inside.bytes c.self.inside.places.items c.self.inside.next c.self.inside.live c.self.invariant in
    rw c.in_ok-grow.ensures.bytes (omega (arith, long, length-append c.self.inside.bytes (behind_pad c.pad_before-lost.result c.index_behind-index.result c.args.payload.now)))

pub invariant_of-self-2 : goal.invariant_of-self-2
invariant_of-self-2 c =
    let k = subst (λ (l : Log). IsKept l c.self.inside.bytes c.self.inside.places.items c.self.inside.next c.self.inside.live) c.self.view_is c.self.invariant in
    let end : c.len.result ≡ length c.self.inside.bytes = c.len.ensures in
    let lost : c.pad_before-lost.result ≡ lost_before (length c.self.inside.bytes) (record_size (length c.args.payload.now)) = c.pad_before-lost.ensures ∙ ap (λ (n : ℕ). lost_before n c.record_size.result) end ∙ ap (λ (n : ℕ). lost_before (length c.self.inside.bytes) n) c.record_size.ensures.value in
    let index : c.index_behind-index.result ≡ given_index c.args.self.now c.args.payload.now = c.index_behind-index.ensures ∙ ap (λ (n : ℕ). cond (eqb n 0) c.self.inside.next (c.self.inside.next + 1)) lost ∙ index_kept c.args.self.now c.self.inside.bytes c.self.inside.places.items c.self.inside.next c.self.inside.live c.args.payload.now k in
    let kept = append_kept c.args.self.now c.self.inside.bytes c.self.inside.places.items c.self.inside.next c.self.inside.live c.args.payload.now c.index_behind-index.result k c.if-n-gt-MAX_PAYLOAD.false index c.if-index-ge-END_OF_INDEXES.false in
    let now = grown_kept (appended c.args.self.now c.args.payload.now) c.self.inside.bytes c.grow.new.bytes c.set_live.new.self c.self.inside.places.items c.grow.new.places.items _ c.pad_before-lost.result c.index_behind-index.result (c.self.inside.live + 1) c.args.payload.now lost c.in_ok-grow.ensures.bytes c.in_ok-grow.ensures.places c.set_live.ensures kept in
    kept_now (appended c.args.self.now c.args.payload.now) c.set_live.new.self c.grow.new.places.items (c.index_behind-index.result + 1) (c.self.inside.live + 1) now

pub returns-clause-ok : goal.returns-clause-ok
returns-clause-ok c =
    let k = subst (λ (l : Log). IsKept l c.self.inside.bytes c.self.inside.places.items c.self.inside.next c.self.inside.live) c.self.view_is c.self.invariant in
    let end : c.len.result ≡ length c.self.inside.bytes = c.len.ensures in
    let lost : c.pad_before-lost.result ≡ lost_before (length c.self.inside.bytes) (record_size (length c.args.payload.now)) = c.pad_before-lost.ensures ∙ ap (λ (n : ℕ). lost_before n c.record_size.result) end ∙ ap (λ (n : ℕ). lost_before (length c.self.inside.bytes) n) c.record_size.ensures.value in
    let index : c.index_behind-index.result ≡ given_index c.args.self.now c.args.payload.now = c.index_behind-index.ensures ∙ ap (λ (n : ℕ). cond (eqb n 0) c.self.inside.next (c.self.inside.next + 1)) lost ∙ index_kept c.args.self.now c.self.inside.bytes c.self.inside.places.items c.self.inside.next c.self.inside.live c.args.payload.now k in
    let kept = append_kept c.args.self.now c.self.inside.bytes c.self.inside.places.items c.self.inside.next c.self.inside.live c.args.payload.now c.index_behind-index.result k c.if-n-gt-MAX_PAYLOAD.false index c.if-index-ge-END_OF_INDEXES.false in
    let now = grown_kept (appended c.args.self.now c.args.payload.now) c.self.inside.bytes c.grow.new.bytes c.set_live.new.self c.self.inside.places.items c.grow.new.places.items _ c.pad_before-lost.result c.index_behind-index.result (c.self.inside.live + 1) c.args.payload.now lost c.in_ok-grow.ensures.bytes c.in_ok-grow.ensures.places c.set_live.ensures kept in
    kept_log (appended c.args.self.now c.args.payload.now) c.set_live.new.self c.grow.new.places.items (c.index_behind-index.result + 1) (c.self.inside.live + 1) now

pub returns-clause-index : goal.returns-clause-index
returns-clause-index c =
    let k = subst (λ (l : Log). IsKept l c.self.inside.bytes c.self.inside.places.items c.self.inside.next c.self.inside.live) c.self.view_is c.self.invariant in
    let end : c.len.result ≡ length c.self.inside.bytes = c.len.ensures in
    let lost : c.pad_before-lost.result ≡ lost_before (length c.self.inside.bytes) (record_size (length c.args.payload.now)) = c.pad_before-lost.ensures ∙ ap (λ (n : ℕ). lost_before n c.record_size.result) end ∙ ap (λ (n : ℕ). lost_before (length c.self.inside.bytes) n) c.record_size.ensures.value in
    c.index_behind-index.ensures ∙ ap (λ (n : ℕ). cond (eqb n 0) c.self.inside.next (c.self.inside.next + 1)) lost ∙ index_kept c.args.self.now c.self.inside.bytes c.self.inside.places.items c.self.inside.next c.self.inside.live c.args.payload.now k

pub returns-clause-refuses : goal.returns-clause-refuses
returns-clause-refuses c =
    let k = subst (λ (l : Log). IsKept l c.self.inside.bytes c.self.inside.places.items c.self.inside.next c.self.inside.live) c.self.view_is c.self.invariant in
    let end : c.len.result ≡ length c.self.inside.bytes = c.len.ensures in
    let lost : c.pad_before-lost.result ≡ lost_before (length c.self.inside.bytes) (record_size (length c.args.payload.now)) = c.pad_before-lost.ensures ∙ ap (λ (n : ℕ). lost_before n c.record_size.result) end ∙ ap (λ (n : ℕ). lost_before (length c.self.inside.bytes) n) c.record_size.ensures.value in
    let index : c.index_behind-index.result ≡ given_index c.args.self.now c.args.payload.now = c.index_behind-index.ensures ∙ ap (λ (n : ℕ). cond (eqb n 0) c.self.inside.next (c.self.inside.next + 1)) lost ∙ index_kept c.args.self.now c.self.inside.bytes c.self.inside.places.items c.self.inside.next c.self.inside.live c.args.payload.now k in
    refuses_none c.args.self.now c.args.payload.now c.index_behind-index.result c.if-n-gt-MAX_PAYLOAD.false (omega (arith, index, c.if-index-ge-END_OF_INDEXES.false))
