use Rattle.std.proofs.Common.{◌≡◌, ◌≤◌, ◌++◌, length}
use Rattle.std.specs.List.{flat_map, AllByRecursion}
use Rattle.object_store.specs.ImageText.{attribute_text, FitsAttribute}
use Rattle.object_store.proofs.spelling.spell_attributes.Given as goal

abbrev pub invariant-loop-name : goal.invariant-loop-name
invariant-loop-name l =
    (l.out ++ flat_map attribute_text l.name-iterator ≡ l.fn.out ++ flat_map attribute_text l.attributes.entries)
    × (AllByRecursion FitsAttribute l.name-iterator → AllByRecursion FitsAttribute l.attributes.entries) × AllByRecursion (λ a. length a.1 ≤ 4096) l.name-iterator × (length l.fn.out ≤ length l.out)
