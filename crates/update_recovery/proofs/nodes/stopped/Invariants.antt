use Rattle.std.proofs.Common.{◌≡◌, ◌≤◌, ◌+◌, ◌++◌, length}
use Rattle.std.specs.Vec.{vec_len, vec_capacity}
use Rattle.std.specs.Vec.Iter.{into_iter_items, into_iter_len}
use Rattle.update_recovery.specs.Steps.{told_from}
use Rattle.update_recovery.specs.Gathering.{stopped_at}
use Rattle.update_recovery.proofs.nodes.stopped.Given as goal

abbrev pub invariant-loop-node : goal.invariant-loop-node
invariant-loop-node g l =
    (l.targets.items ++ told_from (stopped_at l.down) l.place (into_iter_items l.node-iterator) ≡ told_from (stopped_at l.down) 0 l.fn.nodes.items)
    × (l.place + into_iter_len l.node-iterator ≤ 16)
    × (vec_len l.targets + into_iter_len l.node-iterator ≤ vec_capacity l.targets)
    × (into_iter_len l.node-iterator ≡ length (into_iter_items l.node-iterator))
