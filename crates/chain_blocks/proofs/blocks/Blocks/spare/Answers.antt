use Rattle.std.proofs.Common.{◌∙◌, ap, sym, subst, length}
use Rattle.chain_blocks.specs.Chains.{Holds}
use Rattle.chain_blocks.proofs.Trails.{trail_unique}
use Rattle.chain_blocks.proofs.blocks.Blocks.spare.Goals as goal

pub returns-clause-count : goal.returns-clause-count
returns-clause-count c = λ free chains holds.
    let was = c.self.invariant.2 in
    let here = subst (λ v. Holds v free chains) (sym c.self.view_is) holds in
    c.self.invariant.3 ∙ ap length (trail_unique c.self.inside.links.items c.self.inside.free c.self.invariant.0 free was.few was.free_trail here.free_trail)

pub returns-clause-lists : goal.returns-clause-lists
returns-clause-lists c =
    let was = c.self.invariant in
    (was.0, was.1, subst (λ v. Holds v was.0 was.1) c.self.view_is was.2)
