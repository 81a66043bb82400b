use Rattle.std.proofs.Common.{◌≡◌, ◌≤◌, ◌+◌, ◌++◌, length, false}
use Rattle.std.specs.List.{flat_map, list_any}
use Rattle.std.specs.Vec.{vec_len, vec_capacity}
use Rattle.std.specs.Vec.Iter.{into_iter_items, into_iter_len}
use Rattle.update_recovery.specs.Gathering.{is_down, nodes_in}
use Rattle.update_recovery.proofs.nodes.moved.Given as goal

abbrev pub invariant-loop-target : goal.invariant-loop-target
invariant-loop-target g l =
    (l.nodes.items ++ flat_map nodes_in (into_iter_items l.target-iterator) ≡ flat_map nodes_in l.fn.targets.items)
    × (list_any is_down (into_iter_items l.target-iterator) ≡ false)
    × (vec_len l.nodes + into_iter_len l.target-iterator ≤ vec_capacity l.nodes)
    × (into_iter_len l.target-iterator ≡ length (into_iter_items l.target-iterator))
    × (vec_len l.nodes + into_iter_len l.target-iterator ≡ vec_len l.fn.targets)
