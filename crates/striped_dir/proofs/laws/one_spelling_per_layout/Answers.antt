use Rattle.striped_dir.proofs.LayoutLaws.{one_layout}
use Rattle.striped_dir.proofs.laws.one_spelling_per_layout.Goals as goal

pub returns : goal.returns
returns c = record { one = one_layout }
