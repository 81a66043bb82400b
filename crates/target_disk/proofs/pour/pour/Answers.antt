use Rattle.std.specs.Prelude.{IsTrue, ◌++◌}
use Rattle.std.proofs.Common.{◌≡◌, ◌∙◌, ◌+◌, ◌*◌, ◌-◌, ◌≤◌, sym, ap, subst, arith, length, take, drop, length-drop}
use Rattle.std.proofs.lemmas.Bool.{eqb-true, false≢true}
use Rattle.std.proofs.lemmas.Result.{IfOk-at_ok}
use Rattle.std.proofs.lemmas.List.{take_all, length-take-le}
use Rattle.std.proofs.Math.Seq.{take-add}
use Rattle.outside.specs.Disk.{put}
use Rattle.chain_blocks.specs.Chains.{block_len}
use Rattle.chain_blocks.specs.Stored.{place}
use Rattle.target_disk.specs.Draft.{joins, put_len}
use Rattle.target_disk.specs.Consistent.{begun_of, draft_chain}
use Rattle.target_disk.specs.Tables.{data_at}
use Rattle.target_disk.proofs.Pouring.{Poured, keeps_image, still_begun, extended_begun, fits_under, put_joins, extended_len, poured_more, poured_full, poured_torn, poured_done}
use Rattle.target_disk.proofs.pour.pour.Goals as goal

pub loop-at-preserved : goal.loop-at-preserved
loop-at-preserved g c =
    let old = g.D.Disk.shown c.args.disk.now in
    let mid = g.D.Disk.shown c.loop-at.disk in
    let inv = c.loop-at.invariant in
    let one = c.loop-at.book in
    let two = c.fill_block-at.new.book in
    let piece = c.args.piece.now in
    let at = c.loop-at.at in
    let n = c.fill_block-at.result in
    let fill = c.fill_block-at.ensures in
    let more = take n (drop at piece) in
    let rest : take (length piece - at) (drop at piece) ≡ drop at piece = take_all (length piece - at) (drop at piece) (omega (arith, length-drop at piece)) in
    let joined : begun_of two ≡ joins (begun_of one) more = fill.put ∙ ap (λ l. joins (begun_of one) (take n l)) rest in
    let begun = still_begun one two more inv.begun joined in
    let le : n ≤ length (drop at piece) = omega (arith, fill.some.1, ap length rest) in
    let len : length more ≡ n = length-take-le n (drop at piece) le in
    let size = put_joins one two more inv.begun joined in record {
      inside = omega (arith, le, length-drop at piece);
      stays = inv.stays;
      later = inv.later;
      works = inv.works;
      still = inv.still;
      fits = fits_under two fill.fits begun (sym c.is_full.ensures ∙ c.if-is_full.false);
      begun = begun;
      keeps = keeps_image c.args.book.now one two inv.keeps fill.keeps;
      grows = omega (arith, size, len, inv.grows);
      poured = λ honest. subst (λ l. Poured l c.args.book.now two old mid) (sym (take-add at n piece)) (poured_more (take at piece) more c.args.book.now one two old mid fill.chain joined (inv.poured honest));
    }

pub loop-at-preserved-in-Continue-1 : goal.loop-at-preserved-in-Continue-1
loop-at-preserved-in-Continue-1 g c =
    let old = g.D.Disk.shown c.args.disk.now in
    let mid = g.D.Disk.shown c.loop-at.disk in
    let new = g.D.Disk.shown c.write_full.new.disk in
    let inv = c.loop-at.invariant in
    let one = c.loop-at.book in
    let two = c.fill_block-at.new.book in
    let three = c.write_full.new.book in
    let piece = c.args.piece.now in
    let at = c.loop-at.at in
    let n = c.fill_block-at.result in
    let fill = c.fill_block-at.ensures in
    let ok = c.in_ok-write_full.ensures in
    let more = take n (drop at piece) in
    let rest : take (length piece - at) (drop at piece) ≡ drop at piece = take_all (length piece - at) (drop at piece) (omega (arith, length-drop at piece)) in
    let joined : begun_of two ≡ joins (begun_of one) more = fill.put ∙ ap (λ l. joins (begun_of one) (take n l)) rest in
    let begun = still_begun one two more inv.begun joined in
    let le : n ≤ length (drop at piece) = omega (arith, fill.some.1, ap length rest) in
    let len : length more ≡ n = length-take-le n (drop at piece) le in
    let size = put_joins one two more inv.begun joined in
    let full : put_len (begun_of two) ≡ block_len * length (draft_chain two) + block_len = eqb-true (put_len (begun_of two)) (block_len * length (draft_chain two) + block_len) (sym c.is_full.ensures ∙ c.if-is_full.true) in
    let block = c.write_full.ensures.writes.0 in
    let extends = c.write_full.ensures.writes.1 in record {
      inside = omega (arith, le, length-drop at piece);
      stays = record { tells = ok.stays.tells ∙ inv.stays.tells; honest = ok.stays.honest ∙ inv.stays.honest; name = ok.stays.name ∙ inv.stays.name };
      later = omega (arith, inv.later, ok.cause.later);
      works = λ honest works. ok.flag (subst IsTrue (sym inv.stays.honest) honest);
      still = λ honest failed. absurd (false≢true (ok.stopped (subst IsTrue (sym inv.stays.honest) honest) (inv.still honest failed)));
      fits = extends.fits;
      begun = extended_begun two three block extends;
      keeps = keeps_image c.args.book.now one three inv.keeps (keeps_image one two three fill.keeps extends.keeps);
      grows = omega (arith, size, len, inv.grows, extended_len two three block extends full);
      poured = λ honest.
          let still = subst IsTrue (sym inv.stays.honest) honest in
          let writes = c.write_full.ensures.writes.2 still in
          let disk_size = (g.D.Disk.whole c.loop-at.disk).size still in
          poured_full (take (at + n) piece) c.args.book.now two three block c.write_full.result old mid new fill.fits begun full extends (omega (arith, extends.inside, disk_size)) writes
          (IfOk-at_ok (λ _. new.content ≡ put mid.content (place data_at block) two.block.items) c.in_ok-write_full.was writes.written)
          (subst (λ l. Poured l c.args.book.now two old mid) (sym (take-add at n piece)) (poured_more (take at piece) more c.args.book.now one two old mid fill.chain joined (inv.poured honest)));
    }

pub returns-in_err-write_full-clause-pours : goal.returns-in_err-write_full-clause-pours
returns-in_err-write_full-clause-pours g c = λ honest.
    let old = g.D.Disk.shown c.args.disk.now in
    let mid = g.D.Disk.shown c.loop-at.disk in
    let new = g.D.Disk.shown c.write_full.new.disk in
    let inv = c.loop-at.invariant in
    let one = c.loop-at.book in
    let two = c.fill_block-at.new.book in
    let three = c.write_full.new.book in
    let piece = c.args.piece.now in
    let at = c.loop-at.at in
    let fill = c.fill_block-at.ensures in
    let more = take c.fill_block-at.result (drop at piece) in
    let rest : take (length piece - at) (drop at piece) ≡ drop at piece = take_all (length piece - at) (drop at piece) (omega (arith, length-drop at piece)) in
    let joined : begun_of two ≡ joins (begun_of one) more = fill.put ∙ ap (λ l. joins (begun_of one) (take c.fill_block-at.result l)) rest in
    let still = subst IsTrue (sym inv.stays.honest) honest in
    poured_torn (take at piece ++ more) c.args.book.now two three c.write_full.ensures.writes.0 c.write_full.result c.from_residual.result old mid new c.from_residual.ensures.0 fill.fits c.write_full.ensures.writes.1 (c.write_full.ensures.writes.2 still)
    (poured_more (take at piece) more c.args.book.now one two old mid fill.chain joined (inv.poured honest)) piece

pub returns-clause-pours : goal.returns-clause-pours
returns-clause-pours g c = λ honest.
    let all : take c.loop-at.at c.args.piece.now ≡ c.args.piece.now = take_all c.loop-at.at c.args.piece.now (omega arith) in
    poured_done (take c.loop-at.at c.args.piece.now) c.args.piece.now tt c.args.book.now c.loop-at.book (g.D.Disk.shown c.args.disk.now) (g.D.Disk.shown c.loop-at.disk) all (c.loop-at.invariant.poured honest)
