use Rattle.std.proofs.Common.{◌≡◌, ◌≤◌, ◌+◌, ◌*◌, ◌++◌, length, take}
use Rattle.std.specs.List.{flat_map}
use Rattle.object_store.specs.Reads.{entry_bytes}
use Rattle.object_store.proofs.writing.put_names.Given as goal

abbrev pub invariant-loop-name : goal.invariant-loop-name
invariant-loop-name l =
    (l.out.items ++ flat_map entry_bytes (take l.left l.name-iterator) ≡ l.fn.out.items ++ flat_map entry_bytes (take 33 l.names.entries)) × (length l.out.items + 273 * l.left ≤ length l.fn.out.items + 9009)
