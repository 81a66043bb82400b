use Rattle.std.specs.Prelude.{IsTrue, Err}
use Rattle.std.proofs.Common.{[], length, sym, subst}
use Rattle.chain_blocks.specs.Stored.{WritesChain}
use Rattle.target_disk.proofs.Formatting.{holds_image, never_short, takes_image}
use Rattle.target_disk.proofs.store.fill_blocks.Goals as goal

pub unreachable-requires : goal.unreachable-requires
unreachable-requires g c =
    let b = c.requires.blank in
    let w = subst (λ f. WritesChain c.args.book.now.blocks c.write_chain.new.self (Err f) b.free [] (length c.args.image.now)) c.in-Err-Full.field-0-is (c.in-Err-Full.ensures.blocks b.free [] b.holds) in
    never_short c.args.book.now b (length c.args.image.now) c.in-Err-Full.field-0-0 c.requires.most w.0 w.1

pub returns-in-Ok-clause-takes : goal.returns-in-Ok-clause-takes
returns-in-Ok-clause-takes g c =
    let b = c.requires.blank in
    let w = c.in-Ok.ensures.blocks b.free [] b.holds in
    takes_image c.args.book.now c.write_chain.new.self c.in-Ok.head (length c.args.image.now) w.0 b c.requires.some w.1 w.2 w.3

pub returns-in-Ok-clause-holds : goal.returns-in-Ok-clause-holds
returns-in-Ok-clause-holds g c = λ honest.
    let b = c.requires.blank in
    let w = c.in-Ok.ensures.blocks b.free [] b.holds in
    let still : IsTrue (g.D.Disk.shown c.write_at.new.self).honest = subst IsTrue (sym c.write_at.ensures.stays.honest) honest in
    let wrote = c.in-Ok.ensures.wrote still w.0 w.1 b.free [] b.holds w.2 in
    holds_image c.args.book.now c.write_chain.new.self c.in-Ok.head w.0 c.args.image.now (g.D.Disk.shown c.args.disk.now).content (g.D.Disk.shown c.write_at.new.self).content (g.D.Disk.shown c.write_chain.new.disk).content b c.requires.some w.1 w.2 w.3
    ((c.in_ok-write_at.ensures.writes honest).written) wrote.content wrote.written
