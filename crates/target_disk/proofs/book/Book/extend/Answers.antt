use Rattle.target_disk.proofs.Booked.{extends}
use Rattle.target_disk.proofs.book.Book.extend.Goals as goal

pub returns : goal.returns
returns c = extends c.args.self.now c.lengthen-ends.new.blocks c.in-Some.draft c.lengthen-ends.result c.requires.fits c.in-Some.is c.requires.some c.lengthen-ends.ensures
