use Rattle.std.specs.Prelude.{[]}
use Rattle.std.proofs.Common.{inl, sym, subst}
use Rattle.target_disk.specs.Store.{Stands}
use Rattle.target_disk.proofs.store.Store.commit.Goals as goal

pub returns-in-Ok-clause-any_moment : goal.returns-in-Ok-clause-any_moment
returns-in-Ok-clause-any_moment g c = λ s stands.
    let begun : Stands (g.D.Disk.shown c.begin.new.self.disk) s = subst (λ d. Stands (g.D.Disk.shown d) s) (sym c.begin.ensures.disk) stands in
    c.finish.ensures.any_moment s c.args.image.now (c.in-Ok.ensures.stands s begun) (c.in-Ok.ensures.puts [] begun.honest c.begin.ensures.none)

pub returns-in-Ok-clause-done : goal.returns-in-Ok-clause-done
returns-in-Ok-clause-done g c = λ s stands.
    let begun : Stands (g.D.Disk.shown c.begin.new.self.disk) s = subst (λ d. Stands (g.D.Disk.shown d) s) (sym c.begin.ensures.disk) stands in
    c.finish.ensures.done s c.args.image.now (c.in-Ok.ensures.stands s begun) (c.in-Ok.ensures.puts [] begun.honest c.begin.ensures.none)

pub returns-in-Ok-clause-each : goal.returns-in-Ok-clause-each
returns-in-Ok-clause-each g c = λ s stands.
    let begun : Stands (g.D.Disk.shown c.begin.new.self.disk) s = subst (λ d. Stands (g.D.Disk.shown d) s) (sym c.begin.ensures.disk) stands in
    c.finish.ensures.each s c.args.image.now (c.in-Ok.ensures.stands s begun) (c.in-Ok.ensures.puts [] begun.honest c.begin.ensures.none)

pub returns-in-Err-clause-any_moment : goal.returns-in-Err-clause-any_moment
returns-in-Err-clause-any_moment g c = λ s stands image here. inl (c.put.ensures.any_moment s (subst (λ d. Stands (g.D.Disk.shown d) s) (sym c.begin.ensures.disk) stands) image here)
