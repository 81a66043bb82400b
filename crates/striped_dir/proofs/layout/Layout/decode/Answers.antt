use Rattle.std.proofs.Common.{rules}
use Rattle.striped_dir.proofs.LayoutLaws.{found_of, only_of}
use Rattle.striped_dir.proofs.layout.Layout.decode.Goals as goal

pub returns-clause-found : goal.returns-clause-found
returns-clause-found c = found_of c.args.bytes c.read.result (search rules) c.read.ensures.bytes c.read.ensures.value

pub returns-clause-only : goal.returns-clause-only
returns-clause-only c = only_of c.args.bytes c.read.result c.read.ensures.value
