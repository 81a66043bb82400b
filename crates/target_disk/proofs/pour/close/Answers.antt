use Rattle.std.specs.Prelude.{IsTrue, ◌∷◌, []}
use Rattle.std.proofs.Common.{◌≡◌, ◌∙◌, refl, sym, ap, subst, length}
use Rattle.std.proofs.lemmas.Bool.{false≢true}
use Rattle.outside.specs.Disk.{put, settles, ChangesOnly}
use Rattle.chain_blocks.specs.Stored.{KeepsOthers}
use Rattle.target_disk.specs.Tables.{data_at, journal_at}
use Rattle.target_disk.specs.Calls.{Homes}
use Rattle.target_disk.specs.Consistent.{draft_chain}
use Rattle.target_disk.proofs.Closing.{closes_before, closes_journal, closes_gate, closes_home, ready}
use Rattle.target_disk.proofs.pour.close.Goals as goal

pub returns-in_err-write_rest-clause-closes : goal.returns-in_err-write_rest-clause-closes
returns-in_err-write_rest-clause-closes g c = λ honest works knows.
    closes_before c.from_residual.result c.args.book.now c.write_rest.new.book c.write_rest.new.book (g.D.Disk.shown c.args.disk.now) (g.D.Disk.shown c.write_rest.new.disk) c.from_residual.ensures.0 knows c.write_rest.ensures.fits c.write_rest.ensures.keeps (c.write_rest.ensures.pours honest).settled

pub returns-in_err-sync-clause-closes : goal.returns-in_err-sync-clause-closes
returns-in_err-sync-clause-closes g c = λ honest works knows.
    let old = g.D.Disk.shown c.args.disk.now in
    let one = g.D.Disk.shown c.write_rest.new.disk in
    let two = g.D.Disk.shown c.sync.new.self in
    let still : IsTrue one.honest = subst IsTrue (sym c.write_rest.ensures.stays.honest) honest in
    let same : two.settled ≡ one.settled = (c.in_err-sync.ensures.syncs still).err in
    closes_before c.from_residual-in_err-sync.result c.args.book.now c.write_rest.new.book c.write_rest.new.book old two c.from_residual-in_err-sync.ensures.0 knows c.write_rest.ensures.fits c.write_rest.ensures.keeps
    (subst (λ l. KeepsOthers data_at (draft_chain c.write_rest.new.book) old.settled l) (sym same) (c.write_rest.ensures.pours honest).settled)

pub returns-in_err-put_settled-clause-closes : goal.returns-in_err-put_settled-clause-closes
returns-in_err-put_settled-clause-closes g c = λ honest works knows.
    let old = g.D.Disk.shown c.args.disk.now in
    let one = g.D.Disk.shown c.write_rest.new.disk in
    let two = g.D.Disk.shown c.sync.new.self in
    let three = g.D.Disk.shown c.put_settled.new.disk in
    let before = c.args.book.now in
    let rest = c.write_rest.new.book in
    let after = c.turn.new.self in
    let still_one : IsTrue one.honest = subst IsTrue (sym c.write_rest.ensures.stays.honest) honest in
    let still_two : IsTrue two.honest = subst IsTrue (sym c.sync.ensures.stays.honest) still_one in
    let syncs = c.in_ok-sync.ensures.syncs still_one in
    let clean : two.settled ≡ settles two.content = syncs.ok in
    let r = ready before rest old one two c.in_ok-write_rest.field-0 c.args.len knows c.requires.fits c.write_rest.ensures.fits c.write_rest.ensures.keeps (c.in_ok-write_rest.ensures.pours honest) ((g.D.Disk.whole c.args.disk.now).size honest) syncs.content c.requires.size in
    let changes : ChangesOnly journal_at (length after.table.items) two.settled three.settled = subst (λ l. ChangesOnly journal_at (length l) two.settled three.settled) c.deref.ensures.value (c.in_err-put_settled.ensures.puts still_two).torn in
    closes_journal before rest after old two.content knows.found c.args.len r c.turn.ensures c.from_residual-in_err-put_settled.result after two three c.from_residual-in_err-put_settled.ensures.0 refl clean changes

pub returns-in_err-put_settled-2-clause-closes : goal.returns-in_err-put_settled-2-clause-closes
returns-in_err-put_settled-2-clause-closes g c = λ honest works knows.
    let old = g.D.Disk.shown c.args.disk.now in
    let one = g.D.Disk.shown c.write_rest.new.disk in
    let two = g.D.Disk.shown c.sync.new.self in
    let three = g.D.Disk.shown c.put_settled.new.disk in
    let before = c.args.book.now in
    let rest = c.write_rest.new.book in
    let after = c.turn.new.self in
    let still_one : IsTrue one.honest = subst IsTrue (sym c.write_rest.ensures.stays.honest) honest in
    let still_two : IsTrue two.honest = subst IsTrue (sym c.sync.ensures.stays.honest) still_one in
    let syncs = c.in_ok-sync.ensures.syncs still_one in
    let clean : two.settled ≡ settles two.content = syncs.ok in
    let r = ready before rest old one two c.in_ok-write_rest.field-0 c.args.len knows c.requires.fits c.write_rest.ensures.fits c.write_rest.ensures.keeps (c.in_ok-write_rest.ensures.pours honest) ((g.D.Disk.whole c.args.disk.now).size honest) syncs.content c.requires.size in
    let still_three : IsTrue three.honest = subst IsTrue (sym c.put_settled.ensures.stays.honest) still_two in
    let journal = c.in_ok-put_settled.ensures.puts still_two in
    let content : three.content ≡ put two.content journal_at after.table.items = journal.content ∙ ap (put two.content journal_at) c.deref.ensures.value in
    let settled : three.settled ≡ settles three.content = journal.settled in
    let four = g.D.Disk.shown c.put_settled-2.new.disk in
    closes_gate before rest after old two.content knows.found c.args.len r c.turn.ensures c.from_residual-in_err-put_settled-2.result after three four c.from_residual-in_err-put_settled-2.ensures.0 content settled (c.in_err-put_settled-2.ensures.puts still_three).torn

pub returns-clause-flag : goal.returns-clause-flag
returns-clause-flag g c = λ honest.
    let one = g.D.Disk.shown c.write_rest.new.disk in
    let two = g.D.Disk.shown c.sync.new.self in
    let three = g.D.Disk.shown c.put_settled.new.disk in
    let four = g.D.Disk.shown c.put_settled-2.new.disk in
    let still_one : IsTrue one.honest = subst IsTrue (sym c.write_rest.ensures.stays.honest) honest in
    let still_two : IsTrue two.honest = subst IsTrue (sym c.sync.ensures.stays.honest) still_one in
    let still_three : IsTrue three.honest = subst IsTrue (sym c.put_settled.ensures.stays.honest) still_two in
    let still_four : IsTrue four.honest = subst IsTrue (sym c.put_settled-2.ensures.stays.honest) still_three in
    c.settle_home.ensures.flag still_four

pub returns-clause-stopped : goal.returns-clause-stopped
returns-clause-stopped g c = λ honest failed. absurd (false≢true (c.in_ok-sync.ensures.stopped (subst IsTrue (sym c.write_rest.ensures.stays.honest) honest) (c.write_rest.ensures.still honest failed)))

pub returns-clause-closes : goal.returns-clause-closes
returns-clause-closes g c = λ honest works knows.
    let old = g.D.Disk.shown c.args.disk.now in
    let one = g.D.Disk.shown c.write_rest.new.disk in
    let two = g.D.Disk.shown c.sync.new.self in
    let three = g.D.Disk.shown c.put_settled.new.disk in
    let before = c.args.book.now in
    let rest = c.write_rest.new.book in
    let after = c.turn.new.self in
    let still_one : IsTrue one.honest = subst IsTrue (sym c.write_rest.ensures.stays.honest) honest in
    let still_two : IsTrue two.honest = subst IsTrue (sym c.sync.ensures.stays.honest) still_one in
    let syncs = c.in_ok-sync.ensures.syncs still_one in
    let clean : two.settled ≡ settles two.content = syncs.ok in
    let r = ready before rest old one two c.in_ok-write_rest.field-0 c.args.len knows c.requires.fits c.write_rest.ensures.fits c.write_rest.ensures.keeps (c.in_ok-write_rest.ensures.pours honest) ((g.D.Disk.whole c.args.disk.now).size honest) syncs.content c.requires.size in
    let still_three : IsTrue three.honest = subst IsTrue (sym c.put_settled.ensures.stays.honest) still_two in
    let journal = c.in_ok-put_settled.ensures.puts still_two in
    let content : three.content ≡ put two.content journal_at after.table.items = journal.content ∙ ap (put two.content journal_at) c.deref.ensures.value in
    let settled : three.settled ≡ settles three.content = journal.settled in
    let four = g.D.Disk.shown c.put_settled-2.new.disk in
    let five = g.D.Disk.shown c.settle_home.new.disk in
    let still_four : IsTrue four.honest = subst IsTrue (sym c.put_settled-2.ensures.stays.honest) still_three in
    let gate = c.in_ok-put_settled-2.ensures.puts still_three in
    let opened : four.content ≡ put (put two.content journal_at after.table.items) 0 (1 ∷ []) = gate.content ∙ ap (λ l. put l 0 (1 ∷ [])) content in
    let homes : Homes after.table.items c.settle_home.result four five = subst (λ l. Homes l c.settle_home.result four five) c.deref-2.ensures.value (c.settle_home.ensures.homes still_four) in
    closes_home before rest after old two.content knows.found c.args.len r c.turn.ensures c.settle_home.result four five opened gate.settled homes
