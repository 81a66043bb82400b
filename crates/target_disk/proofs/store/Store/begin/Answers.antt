use Rattle.std.proofs.Common.{◌∙◌, sym}
use Rattle.target_disk.proofs.Beginning.{begins, begun_empty, begun_none}
use Rattle.target_disk.proofs.store.Store.begin.Goals as goal

pub invariant_of-self : goal.invariant_of-self
invariant_of-self g c =
    let gave = c.give_up.new.self in
    let keeps = c.give_up.ensures.keeps in
    let minds = c.self.invariant.2 in (
      begins gave c.new.result c.give_up.ensures.none c.new.ensures.0 c.new.ensures.1 c.new.ensures.2 c.give_up.ensures.fits,
      λ honest works. let k = c.self.invariant.1 honest works in record { shut = k.shut; found = k.found; home = k.home; generation = k.generation ∙ sym keeps.generation; chain = k.chain ∙ sym keeps.chain },
      record { known = minds.known; empty = λ honest failed. begun_empty gave.blocks.links gave.block.items c.new.result c.new.ensures.0 c.new.ensures.2 },
    )

pub returns-clause-none : goal.returns-clause-none
returns-clause-none g c = begun_none (g.D.Disk.shown c.self.inside.disk) c.give_up.new.self.blocks.links c.give_up.new.self.block.items c.new.result c.new.ensures.0 c.new.ensures.2
