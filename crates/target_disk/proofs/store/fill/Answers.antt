use Rattle.std.specs.Prelude.{IsTrue}
use Rattle.std.proofs.Common.{length, sym, subst, ap, arith}
use Rattle.target_disk.specs.Calls.{Puts}
use Rattle.target_disk.specs.Tables.{home_at}
use Rattle.target_disk.proofs.Formatting.{fills_put, fits_taken, on_ok, table_long}
use Rattle.target_disk.proofs.store.fill.Goals as goal

pub put_settled-requires : goal.put_settled-requires
put_settled-requires g c =
    let long = table_long (length c.args.image.now) c.args.book.now c.fill_blocks.new.book c.put_table.new.self.table.items c.in_ok-fill_blocks.ensures.takes c.put_table.ensures.table in
    omega (arith, ap length c.deref.ensures.value)

pub returns-clause-fits : goal.returns-clause-fits
returns-clause-fits g c =
    let o = c.put_table.ensures.others in
    on_ok c.put_settled.result (fits_taken (length c.args.image.now) c.args.book.now c.fill_blocks.new.book c.put_table.new.self c.requires.blank c.requires.most c.in_ok-fill_blocks.ensures.takes c.put_table.ensures.table o.0 o.1 o.2 o.3 o.4)

pub returns-clause-fills : goal.returns-clause-fills
returns-clause-fills g c = λ honest.
    let o = c.put_table.ensures.others in
    let mid = g.D.Disk.shown c.fill_blocks.new.disk in
    let still : IsTrue mid.honest = subst IsTrue (sym c.fill_blocks.ensures.stays.honest) honest in
    fills_put c.put_settled.result c.args.image.now c.args.book.now c.fill_blocks.new.book c.put_table.new.self mid (g.D.Disk.shown c.put_settled.new.disk) c.requires.blank c.requires.most c.in_ok-fill_blocks.ensures.takes (c.in_ok-fill_blocks.ensures.holds honest)
    ((g.D.Disk.whole c.fill_blocks.new.disk).size still) c.put_table.ensures.table o.0 o.1 o.2
    (subst (λ bytes. Puts home_at bytes c.put_settled.result mid (g.D.Disk.shown c.put_settled.new.disk)) c.deref.ensures.value (c.put_settled.ensures.puts still))
