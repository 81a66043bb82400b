use Rattle.std.specs.Prelude.{IsTrue, is_err, false}
use Rattle.std.proofs.Common.{◌≡◌, ◌∙◌, ◌++◌, ap, sym, subst, arith}
use Rattle.std.proofs.lemmas.Bool.{false≢true}
use Rattle.outside.specs.Causes.{Rose}
use Rattle.target_disk.specs.Draft.{put_len}
use Rattle.target_disk.specs.Store.{HasPut, Stands}
use Rattle.target_disk.specs.Consistent.{begun_of, draft_chain}
use Rattle.target_disk.proofs.Answering.{err_is, ok_is, worked}
use Rattle.target_disk.proofs.Closing.{apart_from}
use Rattle.target_disk.proofs.Drafting.{draft_len}
use Rattle.target_disk.proofs.Keeping.{kept_opens, kept_stands, knows_written}
use Rattle.target_disk.proofs.Opening.{stands_opens}
use Rattle.target_disk.proofs.store.Store.put.Goals as goal

pub returns-then-len-gt-IMAGE_MOST-clause-causes : goal.returns-then-len-gt-IMAGE_MOST-clause-causes
returns-then-len-gt-IMAGE_MOST-clause-causes g c =
    let size : put_len c.args.self.now.draft ≡ c.len.result = ap (λ v. put_len v.draft) (sym c.self.view_is) ∙ draft_len c.self.inside.book c.in-Some.draft c.self.invariant.0 c.in-Some.is ∙ sym c.len.ensures in
    (omega (arith, size), omega (arith, size))

pub returns-then-len-gt-IMAGE_MOST-clause-any_moment : goal.returns-then-len-gt-IMAGE_MOST-clause-any_moment
returns-then-len-gt-IMAGE_MOST-clause-any_moment g c = λ s stands. stands_opens (g.D.Disk.shown c.self.inside.disk) s (subst (λ v. Stands (g.D.Disk.shown v.disk) s) (sym c.self.view_is) stands)

pub pour_asked-requires-clause-room : goal.pour_asked-requires-clause-room
pour_asked-requires-clause-room g c =
    let size = draft_len c.self.inside.book c.in-Some.draft c.self.invariant.0 c.in-Some.is in
    omega (arith, size, c.len.ensures)

pub returns-then-is_err-clause-causes : goal.returns-then-is_err-clause-causes
returns-then-is_err-clause-causes g c =
    let size : put_len c.args.self.now.draft ≡ c.len.result = ap (λ v. put_len v.draft) (sym c.self.view_is) ∙ draft_len c.self.inside.book c.in-Some.draft c.self.invariant.0 c.in-Some.is ∙ sym c.len.ensures in
    let old = g.D.Disk.shown c.self.inside.disk in
    let new = g.D.Disk.shown c.pour_asked.new.disk in
    let rose : Rose old.faults new.faults = err_is c.pour_asked.result (Rose old.faults new.faults) (sym c.is_err.ensures.value ∙ c.if-is_err.true) c.pour_asked.ensures.cause.failed in
    (omega (arith, size), subst (λ v. Rose (g.D.Disk.shown v.disk).faults new.faults) c.self.view_is rose)

pub returns-then-is_err-clause-full : goal.returns-then-is_err-clause-full
returns-then-is_err-clause-full g c = λ lt.
    let size : put_len c.args.self.now.draft ≡ c.len.result = ap (λ v. put_len v.draft) (sym c.self.view_is) ∙ draft_len c.self.inside.book c.in-Some.draft c.self.invariant.0 c.in-Some.is ∙ sym c.len.ensures in
    absurd (omega (arith, size))

pub returns-then-is_err-clause-any_moment : goal.returns-then-is_err-clause-any_moment
returns-then-is_err-clause-any_moment g c = λ s stands.
    let old = g.D.Disk.shown c.self.inside.disk in
    let new = g.D.Disk.shown c.pour_asked.new.disk in
    let st : Stands old s = subst (λ v. Stands (g.D.Disk.shown v.disk) s) (sym c.self.view_is) stands in
    let book = c.pour_asked.new.book in
    kept_opens old new (draft_chain book) s st (apart_from c.self.inside.book book old s (c.self.invariant.1 st.honest st.works) c.pour_asked.ensures.fits c.pour_asked.ensures.keeps st) (c.pour_asked.ensures.pours st.honest st.works).settled

pub invariant_of-self-2 : goal.invariant_of-self-2
invariant_of-self-2 g c =
    let old = g.D.Disk.shown c.self.inside.disk in
    let new = g.D.Disk.shown c.pour_asked.new.disk in
    let failed : is_err c.pour_asked.result ≡ false = sym c.is_err.ensures.value ∙ c.if-is_err.false in
    let was : IsTrue new.honest → IsTrue old.honest = λ honest. subst IsTrue c.pour_asked.ensures.stays.honest honest in
    let worked_before : IsTrue old.honest → old.failed ≡ false = λ honest. worked old.failed (is_err c.pour_asked.result) (c.pour_asked.ensures.fails honest) failed in
    let works : IsTrue new.honest → new.failed ≡ false = λ honest. c.pour_asked.ensures.flag (was honest) ∙ failed in (
      c.pour_asked.ensures.fits,
      λ honest working.
          knows_written c.self.inside.book c.pour_asked.new.book old.content new.content (c.pour_asked.ensures.pours (was honest) (worked_before (was honest))).content.before c.pour_asked.ensures.keeps (c.self.invariant.1 (was honest) (worked_before (was honest))),
      record { known = works; empty = λ honest stopped. absurd (false≢true (sym (works honest) ∙ stopped)) },
    )

pub returns-clause-causes : goal.returns-clause-causes
returns-clause-causes g c =
    let size : put_len c.args.self.now.draft ≡ c.len.result = ap (λ v. put_len v.draft) (sym c.self.view_is) ∙ draft_len c.self.inside.book c.in-Some.draft c.self.invariant.0 c.in-Some.is ∙ sym c.len.ensures in
    omega (arith, size)

pub returns-clause-flags : goal.returns-clause-flags
returns-clause-flags g c = λ honest.
    let old = g.D.Disk.shown c.self.inside.disk in
    let was : IsTrue old.honest = subst (λ v. IsTrue (g.D.Disk.shown v.disk).honest) (sym c.self.view_is) honest in
    let failed : is_err c.pour_asked.result ≡ false = sym c.is_err.ensures.value ∙ c.if-is_err.false in
    (subst (λ v. (g.D.Disk.shown v.disk).failed ≡ false) c.self.view_is (worked old.failed (is_err c.pour_asked.result) (c.pour_asked.ensures.fails was) failed), c.pour_asked.ensures.flag was ∙ failed)

pub returns-clause-puts : goal.returns-clause-puts
returns-clause-puts g c = λ bytes honest put.
    let old = g.D.Disk.shown c.self.inside.disk in
    let new = g.D.Disk.shown c.pour_asked.new.disk in
    let was : IsTrue old.honest = subst (λ v. IsTrue (g.D.Disk.shown v.disk).honest) (sym c.self.view_is) honest in
    let has = subst (λ v. HasPut (g.D.Disk.shown v.disk) v.draft bytes) (sym c.self.view_is) put in
    let failed : is_err c.pour_asked.result ≡ false = sym c.is_err.ensures.value ∙ c.if-is_err.false in
    let works = worked old.failed (is_err c.pour_asked.result) (c.pour_asked.ensures.fails was) failed in
    ok_is c.pour_asked.result (HasPut new (begun_of c.pour_asked.new.book) (bytes ++ c.args.piece.now)) failed ((c.pour_asked.ensures.pours was works).put bytes has)

pub returns-clause-full : goal.returns-clause-full
returns-clause-full g c = λ lt.
    let size : put_len c.args.self.now.draft ≡ c.len.result = ap (λ v. put_len v.draft) (sym c.self.view_is) ∙ draft_len c.self.inside.book c.in-Some.draft c.self.invariant.0 c.in-Some.is ∙ sym c.len.ensures in
    absurd (omega (arith, size))

pub returns-clause-any_moment : goal.returns-clause-any_moment
returns-clause-any_moment g c = λ s stands.
    let old = g.D.Disk.shown c.self.inside.disk in
    let new = g.D.Disk.shown c.pour_asked.new.disk in
    let st : Stands old s = subst (λ v. Stands (g.D.Disk.shown v.disk) s) (sym c.self.view_is) stands in
    let book = c.pour_asked.new.book in
    kept_opens old new (draft_chain book) s st (apart_from c.self.inside.book book old s (c.self.invariant.1 st.honest st.works) c.pour_asked.ensures.fits c.pour_asked.ensures.keeps st) (c.pour_asked.ensures.pours st.honest st.works).settled

pub returns-clause-stands : goal.returns-clause-stands
returns-clause-stands g c = λ s stands.
    let old = g.D.Disk.shown c.self.inside.disk in
    let new = g.D.Disk.shown c.pour_asked.new.disk in
    let st : Stands old s = subst (λ v. Stands (g.D.Disk.shown v.disk) s) (sym c.self.view_is) stands in
    let book = c.pour_asked.new.book in
    let pours = c.pour_asked.ensures.pours st.honest st.works in
    kept_stands old new (draft_chain book) s st (apart_from c.self.inside.book book old s (c.self.invariant.1 st.honest st.works) c.pour_asked.ensures.fits c.pour_asked.ensures.keeps st) pours.settled pours.content (subst IsTrue (sym c.pour_asked.ensures.stays.honest) st.honest)
    (c.pour_asked.ensures.flag st.honest ∙ sym c.is_err.ensures.value ∙ c.if-is_err.false)
