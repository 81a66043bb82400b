use Rattle.std.proofs.Common.{◌≤◌, IfSome, IsSome, refl, sym, ap, subst, ◌∙◌}
use Rattle.std.proofs.lemmas.Bool.{false≢true}
use Rattle.std.specs.Option.{option_copied_mut}
use Rattle.std.specs.FinMap as map
use Rattle.tree_model.specs.Fids.{fid_cmp}
use Rattle.tree_model.proofs.Maps.{got, put, taken, fids_total, exact_fids}
use Rattle.commit_sharing.specs.Pending.{Writers, AreRequests, put_back}
use Rattle.commit_sharing.proofs.Writers.{more_requests, less_requests}
use Rattle.commit_sharing.proofs.pending.Pending.put_back.Goals as goal

pub returns-in-None : goal.returns-in-None
returns-in-None c =
    taken fid_cmp fids_total exact_fids c.self.inside.writers.entries c.remove.new.self.entries c.args.fid c.remove.ensures.updates.0
    ∙ ap (λ (m : Writers). map.remove m c.args.fid) c.self.view_is
    ∙ sym (ap (λ b. put_back c.args.self.now c.args.fid b) c.in-None.is)

pub returns-in-Some-get_mut : goal.returns-in-Some-get_mut
returns-in-Some-get_mut c =
    let is = sym c.get_mut.ensures.value ∙ ap (λ o. option_copied_mut o) c.in-Some-get_mut.is in
    let some = subst (λ o. IsSome o) (sym is) refl in
    put fid_cmp fids_total exact_fids c.self.inside.writers.entries (c.get_mut.follows.lender c.in-Some.writer).entries c.args.fid c.in-Some.writer ((c.get_mut.follows.holds c.in-Some.writer).3 some).0
    ∙ ap (λ (m : Writers). map.insert m c.args.fid c.in-Some.writer) c.self.view_is
    ∙ sym (ap (λ b. put_back c.args.self.now c.args.fid b) c.in-Some.is)

pub returns-in_default : goal.returns-in_default
returns-in_default c =
    let is = sym c.get_mut.ensures.value ∙ ap (λ o. option_copied_mut o) c.in_default.is in
    let none = sym (ap (λ (m : Writers). map.get m c.args.fid) c.self.view_is) ∙ got fid_cmp fids_total c.self.inside.writers.entries c.args.fid ∙ is in
    absurd (false≢true (subst (λ o. IsSome o) none c.requires.noted))

pub invariant_of-self : goal.invariant_of-self
invariant_of-self c =
    subst AreRequests (sym (taken fid_cmp fids_total exact_fids c.self.inside.writers.entries c.remove.new.self.entries c.args.fid c.remove.ensures.updates.0))
    (less_requests (map.from_entries c.self.inside.writers.entries) c.args.fid c.self.invariant)

pub invariant_of-self-in-Some-get_mut : goal.invariant_of-self-in-Some-get_mut
invariant_of-self-in-Some-get_mut c =
    let is = sym c.get_mut.ensures.value ∙ ap (λ o. option_copied_mut o) c.in-Some-get_mut.is in
    let some = subst (λ o. IsSome o) (sym is) refl in
    let set = subst (λ o. IfSome o (λ w. 1 ≤ w.0)) c.in-Some.is c.requires.number in
    subst AreRequests
    (sym (put fid_cmp fids_total exact_fids c.self.inside.writers.entries (c.get_mut.follows.lender c.in-Some.writer).entries c.args.fid c.in-Some.writer ((c.get_mut.follows.holds c.in-Some.writer).3 some).0))
    (more_requests (map.from_entries c.self.inside.writers.entries) c.args.fid c.in-Some.writer c.self.invariant set)
