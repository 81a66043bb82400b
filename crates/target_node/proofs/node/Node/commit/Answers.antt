use Rattle.std.proofs.Common.{◌≡◌, ◌∙◌, sym, subst, ap}
use Rattle.target_disk.specs.Store.{following}
use Rattle.target_disk.proofs.Opening.{stands_opens}
use Rattle.state_image.specs.StateText.{FitsState}
use Rattle.target_state.specs.State.{TargetState}
use Rattle.target_state.specs.Image.{image_of, IsInRange}
use Rattle.target_state.specs.Commit.{packed}
use Rattle.target_node.specs.Node.{saved, StandsAs, IsSettledAs, OpensAsEither}
use Rattle.target_node.proofs.Pouring.{opens_as_it_did, ok_then}
use Rattle.target_node.proofs.node.Node.commit.Goals as goal

pub returns-in-Err-clause-any_moment : goal.returns-in-Err-clause-any_moment
returns-in-Err-clause-any_moment g c = λ s n stands.
    let disk = g.D.Disk.shown c.self.inside.store.disk in
    opens_as_it_did disk (saved n s) (saved (following n) (packed c.args.self.now.state))
    (stands_opens disk (saved n s) (subst (λ v. StandsAs (g.D.Disk.shown v.disk) n s) (sym c.self.view_is) stands))

pub returns-then-is_err-clause-any_moment : goal.returns-then-is_err-clause-any_moment
returns-then-is_err-clause-any_moment g c = λ s n stands.
    let st : StandsAs (g.D.Disk.shown c.self.inside.store.disk) n s = subst (λ v. StandsAs (g.D.Disk.shown v.disk) n s) (sym c.self.view_is) stands in
    let ready : c.ready.new.self ≡ packed c.args.self.now.state = c.in-Ok.ensures.state ∙ ap (λ v. packed v.state) c.self.view_is in
    subst (λ (t : TargetState). OpensAsEither (g.D.Disk.shown c.put_image.new.store.disk) n s t) ready (c.put_image.ensures.any_moment (saved n s) st)

pub returns-clause-any_moment : goal.returns-clause-any_moment
returns-clause-any_moment g c = λ s n stands.
    let st : StandsAs (g.D.Disk.shown c.self.inside.store.disk) n s = subst (λ v. StandsAs (g.D.Disk.shown v.disk) n s) (sym c.self.view_is) stands in
    let ready : c.ready.new.self ≡ packed c.args.self.now.state = c.in-Ok.ensures.state ∙ ap (λ v. packed v.state) c.self.view_is in
    subst (λ (t : TargetState). OpensAsEither (g.D.Disk.shown c.put_image.new.store.disk) n s t) ready (c.put_image.ensures.any_moment (saved n s) st)

pub returns-clause-done : goal.returns-clause-done
returns-clause-done g c = λ s n stands.
    let st : StandsAs (g.D.Disk.shown c.self.inside.store.disk) n s = subst (λ v. StandsAs (g.D.Disk.shown v.disk) n s) (sym c.self.view_is) stands in
    let ready : c.ready.new.self ≡ packed c.args.self.now.state = c.in-Ok.ensures.state ∙ ap (λ v. packed v.state) c.self.view_is in
    subst (λ (t : TargetState). IsSettledAs (g.D.Disk.shown c.put_image.new.store.disk) (following n) t) ready
    (ok_then c.put_image.result (sym c.is_err.ensures.value ∙ c.if-is_err.false) (c.put_image.ensures.done (saved n s) st))

pub returns-then-is_err-clause-fits : goal.returns-then-is_err-clause-fits
returns-then-is_err-clause-fits g c = λ range.
    let ready : c.ready.new.self ≡ packed c.args.self.now.state = c.in-Ok.ensures.state ∙ ap (λ v. packed v.state) c.self.view_is in
    subst (λ (t : TargetState). FitsState (image_of t)) ready (c.in-Ok.ensures.image (subst (λ v. IsInRange v.state) (sym c.self.view_is) range))

pub returns-clause-fits : goal.returns-clause-fits
returns-clause-fits g c = λ range.
    let ready : c.ready.new.self ≡ packed c.args.self.now.state = c.in-Ok.ensures.state ∙ ap (λ v. packed v.state) c.self.view_is in
    subst (λ (t : TargetState). FitsState (image_of t)) ready (c.in-Ok.ensures.image (subst (λ v. IsInRange v.state) (sym c.self.view_is) range))
