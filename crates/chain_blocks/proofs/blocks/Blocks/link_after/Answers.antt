use Rattle.std.specs.Prelude.{◌<◌, length, ◌++◌, ◌∷◌, [], List, ℕ}
use Rattle.std.proofs.Common.{sym, subst, arith}
use Rattle.chain_blocks.specs.Chains.{Holds, Takes}
use Rattle.chain_blocks.proofs.Trails.{after_take, tail_inside, sound_linked, links_behind, links_none}
use Rattle.chain_blocks.proofs.blocks.Blocks.link_after.Goals as goal

pub returns-in-Err : goal.returns-in-Err
returns-in-Err c = λ free before chains holds. links_none c.args.self.now c.take.new.self c.take.result c.in-Err.full free (before ++ c.args.tail ∷ []) chains c.in-Err.is (c.take.ensures free ((before ++ c.args.tail ∷ []) ∷ chains) holds)

pub index_mut-requires : goal.index_mut-requires
index_mut-requires c =
    let there = after_take c.args.self.now c.take.new.self c.take.result c.in-Ok.block c.args.tail c.in-Ok.is c.requires c.take.ensures in
    let lt : c.args.tail < length c.self.inside.links.items = subst (λ v. c.args.tail < length v.links) (sym c.self.view_is) (tail_inside c.take.new.self c.in-Ok.block c.args.tail there) in omega arith

pub invariant_of-self : goal.invariant_of-self
invariant_of-self c =
    let there = after_take c.args.self.now c.take.new.self c.take.result c.in-Ok.block c.args.tail c.in-Ok.is c.requires c.take.ensures in
    sound_linked c.self.inside.links.items c.self.inside.free c.self.inside.spare c.in-Ok.block c.args.tail c.self.invariant
    (subst (λ v. (free : List ℕ) × (before : List ℕ) × (chains : List (List ℕ)) × Holds v free ((c.in-Ok.block ∷ []) ∷ ((before ++ c.args.tail ∷ []) ∷ chains))) (sym c.self.view_is) there)

pub returns : goal.returns
returns c = λ free before chains holds.
    links_behind c.args.self.now c.self.inside.links.items c.self.inside.free c.take.result c.in-Ok.block c.args.tail free before chains c.in-Ok.is
    (subst (λ v. Takes c.args.self.now v c.take.result free ((before ++ c.args.tail ∷ []) ∷ chains)) (sym c.self.view_is) (c.take.ensures free ((before ++ c.args.tail ∷ []) ∷ chains) holds))
