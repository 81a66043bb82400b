use Rattle.std.proofs.Common.{◌≡◌, ◌≤◌, ◌++◌, length}
use Rattle.std.specs.List.{flat_map, AllByRecursion}
use Rattle.object_store.specs.ImageText.{entry_text, FitsEntry}
use Rattle.object_store.proofs.spelling.spell_entries.Given as goal

abbrev pub invariant-loop-name : goal.invariant-loop-name
invariant-loop-name l =
    (l.out ++ flat_map entry_text l.name-iterator ≡ l.fn.out ++ flat_map entry_text l.entries.entries) × (AllByRecursion FitsEntry l.name-iterator → AllByRecursion FitsEntry l.entries.entries) × (length l.fn.out ≤ length l.out)
