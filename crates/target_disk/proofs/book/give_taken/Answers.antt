use Rattle.target_disk.proofs.Booked.{given_taken}
use Rattle.target_disk.proofs.book.give_taken.Goals as goal

pub returns : goal.returns
returns c = λ free taken rest most drafted holds. given_taken most c.args.draft c.in-Some.draft c.in-Some-ends.ends c.args.blocks.now c.give.new.self free taken rest c.in-Some.is c.in-Some-ends.is drafted holds c.give.ensures
