use Rattle.std.proofs.Common.{◌≡◌, ◌≤◌, ◌+◌, length, drop}
use Rattle.std.specs.List.{flat_map}
use Rattle.object_store.specs.ImageText.{object_text}
use Rattle.object_store.proofs.parts.next_object.Given as goal

abbrev pub invariant-loop-fid : goal.invariant-loop-fid
invariant-loop-fid l = record {
  passed : length (flat_map object_text l.fn.objects) + l.place ≡ l.at + length (flat_map object_text l.objects);
  within : l.place ≤ l.at;
  text : drop l.at (flat_map object_text l.fn.objects) ≡ drop l.place (flat_map object_text l.objects);
}

abbrev pub decreases-loop-fid : goal.decreases-loop-fid
decreases-loop-fid l = length l.objects
