use Rattle.std.proofs.Common.{◌≡◌}
use Rattle.object_store.specs.Following.{first_entry}
use Rattle.object_store.proofs.following.first_entry.Given as goal

abbrev pub invariant-loop-fid : goal.invariant-loop-fid
invariant-loop-fid l = first_entry l.fid-iterator ≡ first_entry l.fn.objects
