use Rattle.std.proofs.Common.{◌≤◌, IfSome, sym, ap, subst, ◌∙◌}
use Rattle.std.specs.FinMap as map
use Rattle.tree_model.specs.Fids.{fid_cmp}
use Rattle.tree_model.proofs.Maps.{got, fids_total}
use Rattle.commit_sharing.specs.Pending.{Writers}
use Rattle.commit_sharing.proofs.pending.Pending.writer.Goals as goal

pub returns-clause-value : goal.returns-clause-value
returns-clause-value c = c.copied.ensures ∙ c.get.ensures.value ∙ sym (got fid_cmp fids_total c.self.inside.writers.entries c.args.fid) ∙ ap (λ (m : Writers). map.get m c.args.fid) c.self.view_is

pub returns-clause-number : goal.returns-clause-number
returns-clause-number c =
    subst (λ o. IfSome o (λ w. 1 ≤ w.0)) (sym (c.copied.ensures ∙ c.get.ensures.value ∙ sym (got fid_cmp fids_total c.self.inside.writers.entries c.args.fid))) (c.self.invariant c.args.fid)
