use Rattle.std.proofs.Common.{◌≡◌, ◌-◌, ℕ, ap, arith, length, length-append, length-take, take, replicate}
use Rattle.std.proofs.lemmas.List.{length-replicate}
use Rattle.chain_blocks.specs.Chains.{block_len}
use Rattle.target_disk.proofs.Chained.{draft_is}
use Rattle.target_disk.proofs.Resting.{SameBook, rests_padded}
use Rattle.target_disk.proofs.pour.write_rest.Goals as goal

pub returns-clause-pours : goal.returns-clause-pours
returns-clause-pours g c = λ honest.
    let book = c.args.book.now in
    let fill = c.in-Some.draft.fill in
    let items = book.block.items in
    let others = c.pad.ensures.others in
    let same : SameBook book c.pad.new.book = record { blocks = others.0; head = others.1; generation = others.2; table = others.3; draft = others.4 } in
    let draft = draft_is 4095 book c.in-Some.draft c.requires.fits c.in-Some.is in
    let len : length c.pad.new.book.block.items ≡ block_len = omega (arith, ap length c.pad.ensures.bytes, length-append (take fill items) (replicate (block_len - fill) 0), length-take fill items, length-replicate {A = ℕ} (block_len - fill) 0, c.requires.fits.block, draft.1) in
    let size = (g.D.Disk.whole c.args.disk.now).size honest in
    let written = c.write_full.ensures.writes in
    rests_padded book c.pad.new.book c.write_full.new.book c.in-Some.draft written.0 c.write_full.result (g.D.Disk.shown c.args.disk.now) (g.D.Disk.shown c.write_full.new.disk) c.in-Some.is c.requires.fits same c.pad.ensures.bytes len written.1 (omega (arith, written.1.inside, size)) (written.2 honest)
