use Rattle.std.proofs.Common.{◌≡◌, ◌∙◌, sym, subst, ap}
use Rattle.target_disk.specs.Store.{following}
use Rattle.target_state.specs.State.{TargetState}
use Rattle.target_state.specs.Rules.{renewed}
use Rattle.target_node.specs.Node.{saved, StandsAs, IsSettledAs, OpensAsEither}
use Rattle.target_node.proofs.Pouring.{ok_then}
use Rattle.target_node.proofs.node.Node.renew.Goals as goal

pub returns-then-is_err-clause-any_moment : goal.returns-then-is_err-clause-any_moment
returns-then-is_err-clause-any_moment g c = λ s n stands.
    let st : StandsAs (g.D.Disk.shown c.self.inside.store.disk) n s = subst (λ v. StandsAs (g.D.Disk.shown v.disk) n s) (sym c.self.view_is) stands in
    let new : c.renew.new.self ≡ renewed c.args.epoch c.args.self.now.state = c.renew.ensures ∙ ap (λ v. renewed c.args.epoch v.state) c.self.view_is in
    subst (λ (t : TargetState). OpensAsEither (g.D.Disk.shown c.put_image.new.store.disk) n s t) new (c.put_image.ensures.any_moment (saved n s) st)

pub returns-clause-any_moment : goal.returns-clause-any_moment
returns-clause-any_moment g c = λ s n stands.
    let st : StandsAs (g.D.Disk.shown c.self.inside.store.disk) n s = subst (λ v. StandsAs (g.D.Disk.shown v.disk) n s) (sym c.self.view_is) stands in
    let new : c.renew.new.self ≡ renewed c.args.epoch c.args.self.now.state = c.renew.ensures ∙ ap (λ v. renewed c.args.epoch v.state) c.self.view_is in
    subst (λ (t : TargetState). OpensAsEither (g.D.Disk.shown c.put_image.new.store.disk) n s t) new (c.put_image.ensures.any_moment (saved n s) st)

pub returns-clause-done : goal.returns-clause-done
returns-clause-done g c = λ s n stands.
    let st : StandsAs (g.D.Disk.shown c.self.inside.store.disk) n s = subst (λ v. StandsAs (g.D.Disk.shown v.disk) n s) (sym c.self.view_is) stands in
    let new : c.renew.new.self ≡ renewed c.args.epoch c.args.self.now.state = c.renew.ensures ∙ ap (λ v. renewed c.args.epoch v.state) c.self.view_is in
    subst (λ (t : TargetState). IsSettledAs (g.D.Disk.shown c.put_image.new.store.disk) (following n) t) new
    (ok_then c.put_image.result (sym c.is_err.ensures.value ∙ c.if-is_err.false) (c.put_image.ensures.done (saved n s) st))
