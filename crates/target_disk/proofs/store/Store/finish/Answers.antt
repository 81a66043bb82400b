use Rattle.std.specs.Prelude.{IsTrue, is_err}
use Rattle.std.proofs.Common.{◌≡◌, ◌∙◌, inr, sym, subst, false, Some}
use Rattle.outside.specs.Disk.{settles}
use Rattle.target_disk.specs.Tables.{opened}
use Rattle.target_disk.specs.Store.{HasPut, IsSettled, OpensAsEither, Stands, next}
use Rattle.target_disk.proofs.Answering.{err_is, ok_is}
use Rattle.target_disk.proofs.Drafting.{draft_len}
use Rattle.target_disk.proofs.Opening.{settled_opens}
use Rattle.target_disk.proofs.store.Store.finish.Goals as goal

pub close-requires-clause-size : goal.close-requires-clause-size
close-requires-clause-size g c = c.len.ensures ∙ sym (draft_len c.self.inside.book c.in-Some.draft c.self.invariant.0 c.in-Some.is)

pub returns-then-is_err-clause-any_moment : goal.returns-then-is_err-clause-any_moment
returns-then-is_err-clause-any_moment g c = λ s bytes stands put.
    let old = g.D.Disk.shown c.self.inside.disk in
    let new = g.D.Disk.shown c.close.new.disk in
    let st : Stands old s = subst (λ v. Stands (g.D.Disk.shown v.disk) s) (sym c.self.view_is) stands in
    let has = subst (λ v. HasPut (g.D.Disk.shown v.disk) v.draft bytes) (sym c.self.view_is) put in
    let closes = c.close.ensures.closes st.honest st.works (c.self.invariant.1 st.honest st.works) in
    err_is c.close.result (OpensAsEither new s (next s bytes)) (sym c.is_err.ensures.value ∙ c.if-is_err.true) (closes.torn s bytes st has)

pub returns-clause-any_moment : goal.returns-clause-any_moment
returns-clause-any_moment g c = λ s bytes stands put.
    let old = g.D.Disk.shown c.self.inside.disk in
    let new = g.D.Disk.shown c.close.new.disk in
    let st : Stands old s = subst (λ v. Stands (g.D.Disk.shown v.disk) s) (sym c.self.view_is) stands in
    let has = subst (λ v. HasPut (g.D.Disk.shown v.disk) v.draft bytes) (sym c.self.view_is) put in
    let closes = c.close.ensures.closes st.honest st.works (c.self.invariant.1 st.honest st.works) in
    let failed : is_err c.close.result ≡ false = sym c.is_err.ensures.value ∙ c.if-is_err.false in
    let settled : IsSettled new (next s bytes) = record {
      honest = subst IsTrue (sym c.close.ensures.stays.honest) st.honest;
      works = c.close.ensures.flag st.honest ∙ failed;
      clean = ok_is c.close.result (new.settled ≡ settles new.content) failed closes.settled;
      opens = ok_is c.close.result (opened new.content ≡ Some (next s bytes)) failed (closes.opens s bytes st has);
    } in
    λ image here. inr (settled_opens new (next s bytes) settled image here)

pub returns-clause-done : goal.returns-clause-done
returns-clause-done g c = λ s bytes stands put.
    let old = g.D.Disk.shown c.self.inside.disk in
    let new = g.D.Disk.shown c.close.new.disk in
    let st : Stands old s = subst (λ v. Stands (g.D.Disk.shown v.disk) s) (sym c.self.view_is) stands in
    let has = subst (λ v. HasPut (g.D.Disk.shown v.disk) v.draft bytes) (sym c.self.view_is) put in
    let closes = c.close.ensures.closes st.honest st.works (c.self.invariant.1 st.honest st.works) in
    let failed : is_err c.close.result ≡ false = sym c.is_err.ensures.value ∙ c.if-is_err.false in
    let settled : IsSettled new (next s bytes) = record {
      honest = subst IsTrue (sym c.close.ensures.stays.honest) st.honest;
      works = c.close.ensures.flag st.honest ∙ failed;
      clean = ok_is c.close.result (new.settled ≡ settles new.content) failed closes.settled;
      opens = ok_is c.close.result (opened new.content ≡ Some (next s bytes)) failed (closes.opens s bytes st has);
    } in
    settled

pub returns-clause-each : goal.returns-clause-each
returns-clause-each g c = λ s bytes stands put.
    let old = g.D.Disk.shown c.self.inside.disk in
    let new = g.D.Disk.shown c.close.new.disk in
    let st : Stands old s = subst (λ v. Stands (g.D.Disk.shown v.disk) s) (sym c.self.view_is) stands in
    let has = subst (λ v. HasPut (g.D.Disk.shown v.disk) v.draft bytes) (sym c.self.view_is) put in
    let closes = c.close.ensures.closes st.honest st.works (c.self.invariant.1 st.honest st.works) in
    let failed : is_err c.close.result ≡ false = sym c.is_err.ensures.value ∙ c.if-is_err.false in
    let settled : IsSettled new (next s bytes) = record {
      honest = subst IsTrue (sym c.close.ensures.stays.honest) st.honest;
      works = c.close.ensures.flag st.honest ∙ failed;
      clean = ok_is c.close.result (new.settled ≡ settles new.content) failed closes.settled;
      opens = ok_is c.close.result (opened new.content ≡ Some (next s bytes)) failed (closes.opens s bytes st has);
    } in
    settled_opens new (next s bytes) settled
