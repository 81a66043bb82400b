use Rattle.std.specs.Prelude.{Ok, slice_set, ◌<◌, length}
use Rattle.std.proofs.Common.{sym, subst, arith}
use Rattle.std.proofs.lemmas.List.{get_or_read}
use Rattle.chain_blocks.specs.Chains.{Holds, Takes, last_link}
use Rattle.chain_blocks.specs.declared.blocks.Full.{Full}
use Rattle.chain_blocks.proofs.Trails.{sound_first, sound_took, takes_one}
use Rattle.chain_blocks.proofs.blocks.Blocks.take.Goals as goal

pub index-requires : goal.index-requires
index-requires c = let f = sound_first c.self.inside.links.items c.self.inside.free c.self.inside.spare c.self.invariant c.if-self.false in let lt : c.self.inside.free < length c.self.inside.links.items = f.0 in omega arith

pub index_mut-requires : goal.index_mut-requires
index_mut-requires c = let f = sound_first c.self.inside.links.items c.self.inside.free c.self.inside.spare c.self.invariant c.if-self.false in let lt : c.self.inside.free < length c.self.inside.links.items = f.0 in omega arith

pub invariant_of-self : goal.invariant_of-self
invariant_of-self c =
    let xs = c.self.inside.links.items in
    let at = c.self.inside.free in
    let f = sound_first xs at c.self.inside.spare c.self.invariant c.if-self.false in
    sound_took xs at c.index.result.now c.self.inside.spare c.if-self.false (get_or_read xs at c.index.result.now f.0 c.index.ensures last_link) c.self.invariant

pub returns : goal.returns
returns c = λ free chains holds.
    let xs = c.self.inside.links.items in
    let at = c.self.inside.free in
    let f = sound_first xs at c.self.inside.spare c.self.invariant c.if-self.false in
    subst (λ v. Takes {E = Full} v (record { links = slice_set xs at last_link; free = c.index.result.now }) (Ok at) free chains) c.self.view_is
    (takes_one Full xs free chains at c.index.result.now c.if-self.false (get_or_read xs at c.index.result.now f.0 c.index.ensures last_link) (subst (λ v. Holds v free chains) (sym c.self.view_is) holds))
