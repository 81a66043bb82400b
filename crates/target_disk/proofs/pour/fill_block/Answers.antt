use Rattle.std.proofs.Common.{arith}
use Rattle.std.proofs.lemmas.Grind.{common_steps}
use Rattle.target_disk.proofs.Chained.{draft_is}
use Rattle.target_disk.proofs.Drafting.{put_len_is, full_len}
use Rattle.target_disk.proofs.pour.fill_block.Goals as goal

pub returns-clause-fits : goal.returns-clause-fits
returns-clause-fits c =
    let f = c.requires.fits in
    let book = c.args.book.now in
    let d = draft_is 4095 book c.in-Some.draft f c.in-Some.is in
    let put = put_len_is 4095 book c.in-Some.draft f (omega arith) c.in-Some.is in
    let full = full_len 4095 book c.in-Some.draft f c.in-Some.is in record {
      free = f.free;
      behind = f.behind;
      taken = f.taken;
      holds = f.holds;
      draft = (d.0, omega (arith, d.1), omega (arith, put, full, c.requires.room));
      count = f.count;
      short = f.short;
      table = f.table;
      block = grind (arith, common_steps);
      positive = f.positive;
    }
