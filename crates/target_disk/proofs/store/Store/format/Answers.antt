use Rattle.std.specs.Prelude.{IsTrue, false}
use Rattle.std.proofs.Common.{◌≡◌, ◌∙◌, arith, subst, sym}
use Rattle.std.proofs.lemmas.Bool.{false≢true}
use Rattle.target_disk.specs.Tables.{Saved}
use Rattle.target_disk.specs.Store.{IsSettled}
use Rattle.target_disk.proofs.Opening.{settled_opens}
use Rattle.target_disk.proofs.store.Store.format.Goals as goal

pub invariant_of-result : goal.invariant_of-result
invariant_of-result g c =
    let new = g.D.Disk.shown c.fill.new.disk in
    let was : IsTrue new.honest → IsTrue (g.D.Disk.shown c.args.disk).honest = λ honest. subst IsTrue c.fill.ensures.stays.honest honest in
    let works : IsTrue new.honest → new.failed ≡ false = λ honest. c.in-Ok-fill.ensures.flag (was honest) in (
      c.in-Ok-fill.ensures.fits,
      λ honest working. (c.in-Ok-fill.ensures.fills (was honest)).knows,
      record { known = works; empty = λ honest failed. absurd (false≢true (sym (works honest) ∙ failed)) },
    )

pub returns-in-Ok-fill-clause-ok : goal.returns-in-Ok-fill-clause-ok
returns-in-Ok-fill-clause-ok g c =
    let new = g.D.Disk.shown c.fill.new.disk in
    let saved : Saved = record { generation = 1; bytes = c.args.image.now } in
    let settled : IsTrue (g.D.Disk.shown c.args.disk).honest → IsSettled new saved = λ honest.
    let fills = c.in-Ok-fill.ensures.fills honest in record {
      honest = subst IsTrue (sym c.fill.ensures.stays.honest) honest;
      works = c.in-Ok-fill.ensures.flag honest;
      clean = fills.settled;
      opens = fills.opens;
    } in record {
      stays = c.fill.ensures.stays;
      later = c.fill.ensures.cause.later;
      fits = omega arith;
      settled = settled;
      each = λ honest. settled_opens new saved (settled honest);
    }
