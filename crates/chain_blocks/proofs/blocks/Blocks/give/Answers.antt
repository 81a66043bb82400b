use Rattle.std.proofs.Common.{sym, subst, arith}
use Rattle.chain_blocks.specs.Chains.{Holds, IsHead}
use Rattle.std.specs.Prelude.{◌∷◌, ◌<◌, length}
use Rattle.chain_blocks.proofs.Trails.{gives}
use Rattle.chain_blocks.proofs.blocks.Blocks.give.Goals as goal

pub index_mut-requires : goal.index_mut-requires
index_mut-requires c =
    let g = gives c.self.inside.links.items c.self.inside.free c.self.inside.spare c.args.head c.last_of-last.result.0 c.last_of-last.result.1 c.self.invariant (subst (λ v. IsHead v c.args.head) (sym c.self.view_is) c.requires) c.last_of-last.ensures in
    let lt : c.last_of-last.result.0 < length c.self.inside.links.items = g.inside in omega arith

pub overflow_add-self : goal.overflow_add-self
overflow_add-self c =
    let g = gives c.self.inside.links.items c.self.inside.free c.self.inside.spare c.args.head c.last_of-last.result.0 c.last_of-last.result.1 c.self.invariant (subst (λ v. IsHead v c.args.head) (sym c.self.view_is) c.requires) c.last_of-last.ensures in
    let room = g.room in omega arith

pub invariant_of-self : goal.invariant_of-self
invariant_of-self c =
    let g = gives c.self.inside.links.items c.self.inside.free c.self.inside.spare c.args.head c.last_of-last.result.0 c.last_of-last.result.1 c.self.invariant (subst (λ v. IsHead v c.args.head) (sym c.self.view_is) c.requires) c.last_of-last.ensures in g.sound

pub returns : goal.returns
returns c = λ free behind chains holds.
    let g = gives c.self.inside.links.items c.self.inside.free c.self.inside.spare c.args.head c.last_of-last.result.0 c.last_of-last.result.1 c.self.invariant (subst (λ v. IsHead v c.args.head) (sym c.self.view_is) c.requires) c.last_of-last.ensures in
    g.each free behind chains (subst (λ v. Holds v free ((c.args.head ∷ behind) ∷ chains)) (sym c.self.view_is) holds)
