use Rattle.std.proofs.Common.{◌≡◌, map}
use Rattle.std.specs.List.{range_with_len}
use Rattle.striped_dir.specs.Layouts.{laid}
use Rattle.striped_dir.specs.Parts.{removed_stripe}
use Rattle.striped_dir.proofs.stripes.remove_parts.Given as goal

abbrev pub invariant-loop-index : goal.invariant-loop-index
invariant-loop-index l = l.parts ≡ map (removed_stripe l.cluster l.dir (laid l.layout) l.batch) (range_with_len 0 l.index)
