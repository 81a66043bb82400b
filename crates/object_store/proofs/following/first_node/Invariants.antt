use Rattle.std.proofs.Common.{◌≡◌}
use Rattle.object_store.specs.Following.{first_node}
use Rattle.object_store.proofs.following.first_node.Given as goal

abbrev pub invariant-loop-fid : goal.invariant-loop-fid
invariant-loop-fid l = first_node l.fid-iterator ≡ first_node l.fn.objects
