use Rattle.target_disk.specs.Store.{following}
use Rattle.target_disk.proofs.Opening.{stands_opens}
use Rattle.target_state.specs.Commit.{packed}
use Rattle.target_node.specs.Node.{saved}
use Rattle.target_node.proofs.Pouring.{opens_as_it_did}
use Rattle.target_node.proofs.node.Node.sync.Goals as goal

pub returns-then-is_idle-clause-any_moment : goal.returns-then-is_idle-clause-any_moment
returns-then-is_idle-clause-any_moment g c = λ s n stands.
    let disk = g.D.Disk.shown c.args.self.now.disk in
    opens_as_it_did disk (saved n s) (saved (following n) (packed c.args.self.now.state)) (stands_opens disk (saved n s) stands)

pub returns-in-Ok-clause-done : goal.returns-in-Ok-clause-done
returns-in-Ok-clause-done g c = λ s n busy stands. c.in-Ok.ensures.done s n stands
