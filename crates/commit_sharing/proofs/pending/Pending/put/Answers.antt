use Rattle.std.proofs.Common.{◌≤◌, IfSome, sym, ap, subst, ◌∙◌}
use Rattle.std.specs.FinMap as map
use Rattle.tree_model.specs.Fids.{fid_cmp}
use Rattle.tree_model.proofs.Maps.{got, put, fids_total, exact_fids}
use Rattle.commit_sharing.specs.Pending.{Writers, AreRequests}
use Rattle.commit_sharing.proofs.Writers.{more_requests}
use Rattle.commit_sharing.proofs.pending.Pending.put.Goals as goal

pub returns-clause-ok : goal.returns-clause-ok
returns-clause-ok c =
    put fid_cmp fids_total exact_fids c.self.inside.writers.entries c.insert.new.self.entries c.args.fid (c.args.number, c.args.on) c.in_ok-before.ensures.updates.0
    ∙ ap (λ (m : Writers). map.insert m c.args.fid (c.args.number, c.args.on)) c.self.view_is

pub returns-clause-before : goal.returns-clause-before
returns-clause-before c =
    c.in_ok-before.ensures.old ∙ sym (got fid_cmp fids_total c.self.inside.writers.entries c.args.fid) ∙ ap (λ (m : Writers). map.get m c.args.fid) c.self.view_is

pub returns-clause-number : goal.returns-clause-number
returns-clause-number c =
    subst (λ o. IfSome o (λ w. 1 ≤ w.0)) (sym (c.in_ok-before.ensures.old ∙ sym (got fid_cmp fids_total c.self.inside.writers.entries c.args.fid))) (c.self.invariant c.args.fid)

pub invariant_of-self-2 : goal.invariant_of-self-2
invariant_of-self-2 c =
    subst AreRequests (sym (put fid_cmp fids_total exact_fids c.self.inside.writers.entries c.insert.new.self.entries c.args.fid (c.args.number, c.args.on) c.in_ok-before.ensures.updates.0))
    (more_requests (map.from_entries c.self.inside.writers.entries) c.args.fid (c.args.number, c.args.on) c.self.invariant c.requires)
