use Rattle.std.proofs.Common.{◌∷◌, [], refl}
use Rattle.target_disk.proofs.Booked.{gave_up, gave_up_keeps}
use Rattle.target_disk.proofs.book.Book.give_up.Goals as goal

pub returns-clause-fits : goal.returns-clause-fits
returns-clause-fits c =
    let f = c.requires in
    gave_up c.args.self.now c.give_taken.new.blocks f (c.give_taken.ensures f.free f.taken ((c.args.self.now.head ∷ f.behind) ∷ []) 4095 f.draft f.holds)

pub returns-clause-keeps : goal.returns-clause-keeps
returns-clause-keeps c =
    let f = c.requires in
    record { chain = gave_up_keeps c.args.self.now c.give_taken.new.blocks f (c.give_taken.ensures f.free f.taken ((c.args.self.now.head ∷ f.behind) ∷ []) 4095 f.draft f.holds); head = refl; generation = refl }
