use Rattle.std.specs.Prelude.{IsTrue, false}
use Rattle.std.proofs.Common.{ℕ, List, ◌≡◌, ◌∙◌, refl, sym, subst, arith}
use Rattle.std.proofs.lemmas.Bool.{cond-true, cond-false, false≢true}
use Rattle.target_disk.specs.Calls.{Redoes}
use Rattle.target_disk.specs.Reads.{Keeps}
use Rattle.target_disk.specs.Steps.{IsBook, IsVerdict}
use Rattle.target_disk.specs.Tables.{is_open}
use Rattle.target_disk.proofs.Reopening.{Redone, Sees, err_same, keeps_both, keeps_reopens, none_opened, read_flag, redo_reopens, redone, rose_later, saved_as, sees_opened, sees_read}
use Rattle.target_disk.proofs.store.Store.open.Goals.{then-is_open, else-is_open}
use Rattle.target_disk.proofs.store.Store.open.Goals as goal

pub returns-in-Err-look-clause-err : goal.returns-in-Err-look-clause-err
returns-in-Err-look-clause-err g c = (keeps_reopens (g.D.Disk.shown c.args.disk) (g.D.Disk.shown c.look.new.disk) c.look.ensures.keeps, c.in-Err-look.ensures.cause.failed, λ honest. c.in-Err-look.ensures.flag honest)

pub returns-in-Ok-Unreadable-clause-err : goal.returns-in-Ok-Unreadable-clause-err
returns-in-Ok-Unreadable-clause-err g c =
    let old = g.D.Disk.shown c.args.disk in
    let items = c.look.new.table.items in (
      c.look.ensures.keeps,
      λ honest. c.in-Ok-look.ensures.flag honest,
      λ tells.
          let gate = c.in-Ok-look.ensures.gate tells in (
            none_opened old.content items c.in-Ok-look.is_open gate (c.in-Ok-look.ensures.table tells) (subst (λ v. IsVerdict items v) c.in-Ok-Unreadable.field-0-is c.in-Ok-Unreadable.ensures),
            elim c.if-is_open.branch [
              | then-is_open w ↦ w.result-is ∙ sym (cond-true (is_open old.content) 1 0 (sym gate ∙ w.if-is_open.true))
              | else-is_open w ↦ w.result-is ∙ sym (cond-false (is_open old.content) 1 0 (sym gate ∙ w.if-is_open.false))
            ],
          ),
    )

pub returns-in-Err-Disk-clause-err : goal.returns-in-Err-Disk-clause-err
returns-in-Err-Disk-clause-err g c =
    let old = g.D.Disk.shown c.args.disk in
    let one = g.D.Disk.shown c.look.new.disk in
    let two = g.D.Disk.shown c.read_image.new.disk in (
      keeps_reopens old two (keeps_both old one two c.look.ensures.keeps c.read_image.ensures.keeps),
      rose_later old.faults one.faults two.faults c.look.ensures.keeps.later (c.read_image.ensures.cause (c.in-Err-Disk.is ∙ err_same (List ℕ) _ _ c.in-Err-Disk.field-0-is)),
      λ honest.
          read_flag (List ℕ) two.failed c.in-Err-Disk.field-0 c.in-Err-Disk.field-0-is (c.in-Err-Disk.ensures.flags (subst IsTrue (sym c.look.ensures.keeps.stays.honest) honest) (c.in-Ok-look.ensures.flag honest)),
    )

pub returns-in-Err-redo-clause-err : goal.returns-in-Err-redo-clause-err
returns-in-Err-redo-clause-err g c =
    let old = g.D.Disk.shown c.args.disk in
    let one = g.D.Disk.shown c.look.new.disk in
    let two = g.D.Disk.shown c.read_image.new.disk in
    let three = g.D.Disk.shown c.redo.new.disk in
    let book = c.in-Ok-Readable.book in
    let image = c.in-Ok-read_image.image in
    let gate = c.in-Ok-look.is_open in
    let keeps = keeps_both old one two c.look.ensures.keeps c.read_image.ensures.keeps in
    let named : IsBook c.look.new.table.items book c.in-Ok-Readable.len = subst (λ v. IsVerdict c.look.new.table.items v) c.in-Ok-Readable.field-0-is c.in-Ok-Readable.ensures in
    let seen : IsTrue old.tells → Sees old.content gate book image = λ tells.
    sees_read old one c.look.new.table.items gate book c.in-Ok-Readable.len image c.look.ensures.keeps tells (c.in-Ok-look.ensures.gate tells) (c.in-Ok-look.ensures.table tells) named (c.in-Ok-read_image.ensures.image (subst IsTrue (sym c.look.ensures.keeps.stays.tells) tells)) in
    let whole = g.D.Disk.whole c.args.disk in
    let works : IsTrue old.honest → two.failed ≡ false = λ honest. c.in-Ok-read_image.ensures.flags (subst IsTrue (sym c.look.ensures.keeps.stays.honest) honest) (c.in-Ok-look.ensures.flag honest) in
    let redoes : IsTrue two.honest → Redoes gate book.table.items c.redo.result two three = λ still. subst (λ bytes. Redoes gate bytes c.redo.result two three) c.deref.ensures.value (c.redo.ensures.redoes still) in (
      redo_reopens c.redo.result old two three gate book image keeps c.redo.ensures.stays c.redo.ensures.cause.later whole.tells whole.size seen redoes,
      rose_later old.faults two.faults three.faults keeps.later c.in-Err-redo.ensures.cause.failed,
      λ honest.
          c.in-Err-redo.ensures.flag (subst IsTrue (sym keeps.stays.honest) honest) (works honest),
    )

pub invariant_of-result : goal.invariant_of-result
invariant_of-result g c =
    let old = g.D.Disk.shown c.args.disk in
    let one = g.D.Disk.shown c.look.new.disk in
    let two = g.D.Disk.shown c.read_image.new.disk in
    let three = g.D.Disk.shown c.redo.new.disk in
    let book = c.in-Ok-Readable.book in
    let image = c.in-Ok-read_image.image in
    let gate = c.in-Ok-look.is_open in
    let keeps = keeps_both old one two c.look.ensures.keeps c.read_image.ensures.keeps in
    let named : IsBook c.look.new.table.items book c.in-Ok-Readable.len = subst (λ v. IsVerdict c.look.new.table.items v) c.in-Ok-Readable.field-0-is c.in-Ok-Readable.ensures in
    let seen : IsTrue old.tells → Sees old.content gate book image = λ tells.
    sees_read old one c.look.new.table.items gate book c.in-Ok-Readable.len image c.look.ensures.keeps tells (c.in-Ok-look.ensures.gate tells) (c.in-Ok-look.ensures.table tells) named (c.in-Ok-read_image.ensures.image (subst IsTrue (sym c.look.ensures.keeps.stays.tells) tells)) in
    let whole = g.D.Disk.whole c.args.disk in
    let works : IsTrue old.honest → two.failed ≡ false = λ honest. c.in-Ok-read_image.ensures.flags (subst IsTrue (sym c.look.ensures.keeps.stays.honest) honest) (c.in-Ok-look.ensures.flag honest) in
    let redoes : IsTrue two.honest → Redoes gate book.table.items c.redo.result two three = λ still. subst (λ bytes. Redoes gate bytes c.redo.result two three) c.deref.ensures.value (c.redo.ensures.redoes still) in
    let does : (honest : IsTrue old.honest) → Redone old three book image = λ honest.
    redone c.in-Ok-redo.field-0 old two three gate book image honest (whole.tells honest) keeps (whole.size honest) (seen (whole.tells honest)) (subst (λ r. Redoes gate book.table.items r two three) c.in-Ok-redo.is (redoes (subst IsTrue (sym keeps.stays.honest) honest))) in
    let was : IsTrue three.honest → IsTrue old.honest = λ honest. subst IsTrue (c.redo.ensures.stays.honest ∙ keeps.stays.honest) honest in
    let working : IsTrue three.honest → three.failed ≡ false = λ honest. c.in-Ok-redo.ensures.flag (subst IsTrue (sym keeps.stays.honest) (was honest)) (works (was honest)) in (
      named.fits,
      λ honest works. (does (was honest)).knows,
      record { known = working; empty = λ honest failed. absurd (false≢true (sym (working honest) ∙ failed)) },
    )

pub returns-in-Ok-redo-clause-ok : goal.returns-in-Ok-redo-clause-ok
returns-in-Ok-redo-clause-ok g c =
    let old = g.D.Disk.shown c.args.disk in
    let one = g.D.Disk.shown c.look.new.disk in
    let two = g.D.Disk.shown c.read_image.new.disk in
    let three = g.D.Disk.shown c.redo.new.disk in
    let book = c.in-Ok-Readable.book in
    let image = c.in-Ok-read_image.image in
    let gate = c.in-Ok-look.is_open in
    let keeps = keeps_both old one two c.look.ensures.keeps c.read_image.ensures.keeps in
    let named : IsBook c.look.new.table.items book c.in-Ok-Readable.len = subst (λ v. IsVerdict c.look.new.table.items v) c.in-Ok-Readable.field-0-is c.in-Ok-Readable.ensures in
    let seen : IsTrue old.tells → Sees old.content gate book image = λ tells.
    sees_read old one c.look.new.table.items gate book c.in-Ok-Readable.len image c.look.ensures.keeps tells (c.in-Ok-look.ensures.gate tells) (c.in-Ok-look.ensures.table tells) named (c.in-Ok-read_image.ensures.image (subst IsTrue (sym c.look.ensures.keeps.stays.tells) tells)) in
    let whole = g.D.Disk.whole c.args.disk in
    let works : IsTrue old.honest → two.failed ≡ false = λ honest. c.in-Ok-read_image.ensures.flags (subst IsTrue (sym c.look.ensures.keeps.stays.honest) honest) (c.in-Ok-look.ensures.flag honest) in
    let redoes : IsTrue two.honest → Redoes gate book.table.items c.redo.result two three = λ still. subst (λ bytes. Redoes gate bytes c.redo.result two three) c.deref.ensures.value (c.redo.ensures.redoes still) in
    record {
      reopens = redo_reopens c.redo.result old two three gate book image keeps c.redo.ensures.stays c.redo.ensures.cause.later whole.tells whole.size seen redoes;
      works = λ honest. c.in-Ok-redo.ensures.flag (subst IsTrue (sym keeps.stays.honest) honest) (works honest);
      shut = λ honest shut.
          let still : IsTrue two.honest = subst IsTrue (sym keeps.stays.honest) honest in
          let s = seen (whole.tells honest) in
          subst (λ d. Keeps old d) (sym ((redoes still).shut (sym s.gate_is ∙ shut)).0) keeps;
      opens = λ tells. (saved_as book image, sees_opened old.content gate book image (seen tells), refl);
    }

pub returns-in-Ok-redo-clause-fits : goal.returns-in-Ok-redo-clause-fits
returns-in-Ok-redo-clause-fits g c =
    let named : IsBook c.look.new.table.items c.in-Ok-Readable.book c.in-Ok-Readable.len = subst (λ v. IsVerdict c.look.new.table.items v) c.in-Ok-Readable.field-0-is c.in-Ok-Readable.ensures in
    omega (arith, named.most, c.in-Ok-read_image.ensures.most)

pub returns-in-Ok-redo-clause-settled : goal.returns-in-Ok-redo-clause-settled
returns-in-Ok-redo-clause-settled g c =
    let old = g.D.Disk.shown c.args.disk in
    let one = g.D.Disk.shown c.look.new.disk in
    let two = g.D.Disk.shown c.read_image.new.disk in
    let three = g.D.Disk.shown c.redo.new.disk in
    let book = c.in-Ok-Readable.book in
    let image = c.in-Ok-read_image.image in
    let gate = c.in-Ok-look.is_open in
    let keeps = keeps_both old one two c.look.ensures.keeps c.read_image.ensures.keeps in
    let named : IsBook c.look.new.table.items book c.in-Ok-Readable.len = subst (λ v. IsVerdict c.look.new.table.items v) c.in-Ok-Readable.field-0-is c.in-Ok-Readable.ensures in
    let seen : IsTrue old.tells → Sees old.content gate book image = λ tells.
    sees_read old one c.look.new.table.items gate book c.in-Ok-Readable.len image c.look.ensures.keeps tells (c.in-Ok-look.ensures.gate tells) (c.in-Ok-look.ensures.table tells) named (c.in-Ok-read_image.ensures.image (subst IsTrue (sym c.look.ensures.keeps.stays.tells) tells)) in
    let whole = g.D.Disk.whole c.args.disk in
    let works : IsTrue old.honest → two.failed ≡ false = λ honest. c.in-Ok-read_image.ensures.flags (subst IsTrue (sym c.look.ensures.keeps.stays.honest) honest) (c.in-Ok-look.ensures.flag honest) in
    let redoes : IsTrue two.honest → Redoes gate book.table.items c.redo.result two three = λ still. subst (λ bytes. Redoes gate bytes c.redo.result two three) c.deref.ensures.value (c.redo.ensures.redoes still) in
    let does : (honest : IsTrue old.honest) → Redone old three book image = λ honest.
    redone c.in-Ok-redo.field-0 old two three gate book image honest (whole.tells honest) keeps (whole.size honest) (seen (whole.tells honest)) (subst (λ r. Redoes gate book.table.items r two three) c.in-Ok-redo.is (redoes (subst IsTrue (sym keeps.stays.honest) honest))) in
    λ s honest clean opens. record {
      honest = subst IsTrue (sym (c.redo.ensures.stays.honest ∙ keeps.stays.honest)) honest;
      works = c.in-Ok-redo.ensures.flag (subst IsTrue (sym keeps.stays.honest) honest) (works honest);
      clean = (does honest).clean clean;
      opens = (does honest).opens ∙ sym (sees_opened old.content gate book image (seen (whole.tells honest))) ∙ opens;
    }
