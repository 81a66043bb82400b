use Rattle.std.proofs.Common.{subst, map, refl}
use Rattle.std.specs.List.{flat_map}
use Rattle.std.proofs.lemmas.Result.{err_from_is_err_and}
use Rattle.llog_store.specs.Log.{Log}
use Rattle.llog_store.specs.Kept.{IsKept, seen}
use Rattle.llog_store.specs.DecodedText.{head_line, entry_line, decoded_text}
use Rattle.llog_store.proofs.Seeing.{long_kept, within_kept}
use Rattle.fid_space.proofs.Fronts.{front_more}
use Rattle.llog_store.proofs.Lines.{text_is, text_whole}
use Rattle.llog_store.proofs.llog.Llog.print.Goals as goal

pub print_entries-requires-clause-long : goal.print_entries-requires-clause-long
print_entries-requires-clause-long c = (long_kept _ c.self.inside.bytes c.self.inside.places.items c.self.inside.next c.self.inside.live c.self.invariant)

pub print_entries-requires-clause-within : goal.print_entries-requires-clause-within
print_entries-requires-clause-within c = rw c.as_slice.ensures.value (within_kept _ c.self.inside.bytes c.self.inside.places.items c.self.inside.next c.self.inside.live c.self.invariant)

pub returns-clause-ok : goal.returns-clause-ok
returns-clause-ok c =
    let k = subst (λ (l : Log). IsKept l c.self.inside.bytes c.self.inside.places.items c.self.inside.next c.self.inside.live) c.self.view_is c.self.invariant in
    let text = text_is c.args.self.now c.self.inside.bytes c.self.inside.bytes c.self.inside.places.items c.as_slice.result.now c.self.inside.next c.self.inside.live k refl c.as_slice.ensures.value in
    text_whole c.args.out.now c.print_head.new.out c.print_entries.new.out (head_line c.self.inside.next c.self.inside.live) (flat_map entry_line (map (seen c.self.inside.bytes) c.as_slice.result.now)) (decoded_text c.args.self.now) c.in_ok-print_head.ensures.ok text c.in_ok-print_entries.ensures.ok

pub returns-in_err-print_entries-clause-err : goal.returns-in_err-print_entries-clause-err
returns-in_err-print_entries-clause-err c =
    let k = subst (λ (l : Log). IsKept l c.self.inside.bytes c.self.inside.places.items c.self.inside.next c.self.inside.live) c.self.view_is c.self.invariant in
    let text = text_is c.args.self.now c.self.inside.bytes c.self.inside.bytes c.self.inside.places.items c.as_slice.result.now c.self.inside.next c.self.inside.live k refl c.as_slice.ensures.value in
    let p = err_from_is_err_and c.from_residual-in_err-print_entries.result c.from_residual-in_err-print_entries.ensures.1 in
    rw p.1 (front_more c.args.out.now c.print_head.new.out c.print_entries.new.out (head_line c.self.inside.next c.self.inside.live) (flat_map entry_line (map (seen c.self.inside.bytes) c.as_slice.result.now)) (decoded_text c.args.self.now) c.in_ok-print_head.ensures.ok text c.in_err-print_entries.ensures.err)
