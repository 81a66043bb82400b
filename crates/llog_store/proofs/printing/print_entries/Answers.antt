use Rattle.std.proofs.Common.{◌++◌, ap, ◌∙◌, get_or, Bool}
use Rattle.std.proofs.lemmas.Result.{err_from_is_err_and}
use Rattle.llog_store.specs.declared.place.Place.{Place}
use Rattle.llog_store.specs.DecodedText.{record_line}
use Rattle.llog_store.proofs.Lines.{lines_more, lines_all, lines_front}
use Rattle.llog_store.proofs.printing.print_entries.Goals as goal

pub returns-in_err-print_entry-clause-err : goal.returns-in_err-print_entry-clause-err
returns-in_err-print_entry-clause-err c =
    let p = err_from_is_err_and c.from_residual.result c.from_residual.ensures.1 in
    rw p.1 (lines_front c.args.bytes.now c.args.places.now c.loop-place.place-index c.args.out.now c.loop-place.out c.print_entry.new.out c.loop-place.invariant c.in_err-print_entry.ensures.err)

pub loop-place-preserved : goal.loop-place-preserved
loop-place-preserved c =
    let p : Place = get_or c.args.places.now c.loop-place.place-index (record { index = 0; at = 0; length = 0 }) in
    lines_more c.args.bytes.now c.args.places.now c.loop-place.place-index c.args.out.now c.loop-place.out c.print_entry.new.out (record { index = 0; at = 0; length = 0 }) c.loop-place-test.true (c.requires.within c.loop-place.place-index (record { index = 0; at = 0; length = 0 }) c.loop-place-test.true) c.loop-place.invariant
    (c.in_ok-print_entry.ensures.ok ∙ ap (λ (b : Bool). c.loop-place.out ++ record_line p.index b p.length) c.has_live.ensures)

pub returns-clause-ok : goal.returns-clause-ok
returns-clause-ok c = lines_all c.args.bytes.now c.args.places.now c.loop-place.place-index c.args.out.now c.loop-place.out c.loop-place-test.false c.loop-place.invariant
