use Rattle.std.proofs.Common.{◌≡◌, ◌≤◌, ◌+◌, ◌++◌, length, map}
use Rattle.std.specs.Vec.{vec_len, vec_capacity}
use Rattle.std.specs.Vec.Iter.{into_iter_items, into_iter_len}
use Rattle.update_recovery.specs.declared.standing.Standing.TheVariants as standing
use Rattle.update_recovery.proofs.nodes.serving.Given as goal

abbrev pub invariant-loop-node : goal.invariant-loop-node
invariant-loop-node g l =
    (l.targets.items ++ map standing.Serving (into_iter_items l.node-iterator) ≡ map standing.Serving l.fn.nodes.items)
    × (vec_len l.targets + into_iter_len l.node-iterator ≤ vec_capacity l.targets)
    × (into_iter_len l.node-iterator ≡ length (into_iter_items l.node-iterator))
