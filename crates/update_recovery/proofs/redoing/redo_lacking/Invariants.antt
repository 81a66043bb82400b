use Rattle.std.proofs.Common.{◌≡◌, ◌++◌}
use Rattle.std.specs.List.{flat_map}
use Rattle.update_recovery.specs.Redoing.{all_redone, lacking_of, numbers_of}
use Rattle.update_recovery.proofs.redoing.redo_lacking.Given as goal

abbrev pub invariant-loop-found : goal.invariant-loop-found
invariant-loop-found g l =
    let f = lacking_of l.bounds.epoch l.bounds.marks.items l.index l.fn.node.state in
    (all_redone l.node.state (flat_map f l.found-iterator) ≡ all_redone l.fn.node.state (flat_map f l.union.keys))
    × (l.numbers ++ numbers_of (flat_map f l.found-iterator) ≡ numbers_of (flat_map f l.union.keys))
    × (l.node.disk ≡ l.fn.node.disk)
