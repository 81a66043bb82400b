use Rattle.std.proofs.Common.{◌≡◌, ◌≤◌, ◌++◌, length}
use Rattle.std.specs.List.{flat_map, AllByRecursion}
use Rattle.object_store.specs.ImageText.{object_text, FitsObject}
use Rattle.object_store.proofs.spelling.spell_objects.Given as goal

abbrev pub invariant-loop-fid : goal.invariant-loop-fid
invariant-loop-fid l =
    (l.out ++ flat_map object_text l.fid-iterator ≡ l.fn.out ++ flat_map object_text l.objects.entries) × (AllByRecursion FitsObject l.fid-iterator → AllByRecursion FitsObject l.objects.entries) × (length l.fn.out ≤ length l.out)
