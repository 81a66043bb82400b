use Rattle.std.proofs.Common.{◌≡◌, ℕ, Some, length, sym, ap, ◌∙◌, subst}
use Rattle.std.proofs.lemmas.Result.{on_ok_weaker}
use Rattle.tree_model.specs.Participants.{home_of}
use Rattle.cluster_core.specs.Cluster.{Cluster}
use Rattle.cluster_core.proofs.members.Members.send.Goals as goal

-- src/sending.rt:75:5
pub returns-clause-after : goal.returns-clause-after
returns-clause-after g c =
    let count : length c.args.self.now.targets ≡ c.self.inside.cluster = ap (λ (x : Cluster). length x.targets) (sym c.self.view_is) ∙ c.self.invariant.count_is in
    on_ok_weaker c.send_to.result
    (λ e. (c.home_of-home.result, subst (λ (n : ℕ). home_of n c.args.request.now.op ≡ Some c.home_of-home.result) (sym count) c.home_of-home.ensures.place, e))
    c.send_to.ensures.after
