use Rattle.std.proofs.Common.{◌≡◌}
use Rattle.object_store.specs.Following.{first_attribute}
use Rattle.object_store.proofs.following.first_attribute.Given as goal

abbrev pub invariant-loop-fid : goal.invariant-loop-fid
invariant-loop-fid l = first_attribute l.fid-iterator ≡ first_attribute l.fn.objects
