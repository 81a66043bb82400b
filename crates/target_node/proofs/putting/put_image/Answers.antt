use Rattle.std.specs.Prelude.{[]}
use Rattle.std.proofs.Common.{sym, subst, arith}
use Rattle.target_disk.specs.Store.{Stands, next}
use Rattle.target_state.specs.Image.{state_text}
use Rattle.target_state.proofs.Lengths.{state_length}
use Rattle.target_node.proofs.Pouring.{opens_as_it_did}
use Rattle.target_node.proofs.putting.put_image.Goals as goal

pub finish-requires-clause-some : goal.finish-requires-clause-some
finish-requires-clause-some g c = omega (arith, c.in_ok-put_parts.ensures.grows, state_length c.args.state.now)

pub returns-in_err-put_parts-clause-any_moment : goal.returns-in_err-put_parts-clause-any_moment
returns-in_err-put_parts-clause-any_moment g c = λ s stands.
    let begun : Stands (g.D.Disk.shown c.begin.new.self.disk) s = subst (λ d. Stands (g.D.Disk.shown d) s) (sym c.begin.ensures.disk) stands in
    opens_as_it_did (g.D.Disk.shown c.put_parts.new.store.disk) s (next s (state_text c.args.state.now)) (c.in_err-put_parts.ensures.opens s begun)

pub returns-in-Ok-clause-any_moment : goal.returns-in-Ok-clause-any_moment
returns-in-Ok-clause-any_moment g c = λ s stands.
    let begun : Stands (g.D.Disk.shown c.begin.new.self.disk) s = subst (λ d. Stands (g.D.Disk.shown d) s) (sym c.begin.ensures.disk) stands in
    let puts = c.in_ok-put_parts.ensures in
    c.finish.ensures.any_moment s (state_text c.args.state.now) (puts.stands s begun) (puts.puts [] begun.honest c.begin.ensures.none)

pub returns-in-Ok-clause-done : goal.returns-in-Ok-clause-done
returns-in-Ok-clause-done g c = λ s stands.
    let begun : Stands (g.D.Disk.shown c.begin.new.self.disk) s = subst (λ d. Stands (g.D.Disk.shown d) s) (sym c.begin.ensures.disk) stands in
    let puts = c.in_ok-put_parts.ensures in
    c.in-Ok.ensures.done s (state_text c.args.state.now) (puts.stands s begun) (puts.puts [] begun.honest c.begin.ensures.none)

pub returns-in-Err-Disk-clause-any_moment : goal.returns-in-Err-Disk-clause-any_moment
returns-in-Err-Disk-clause-any_moment g c = λ s stands.
    let begun : Stands (g.D.Disk.shown c.begin.new.self.disk) s = subst (λ d. Stands (g.D.Disk.shown d) s) (sym c.begin.ensures.disk) stands in
    let puts = c.in_ok-put_parts.ensures in
    c.finish.ensures.any_moment s (state_text c.args.state.now) (puts.stands s begun) (puts.puts [] begun.honest c.begin.ensures.none)
