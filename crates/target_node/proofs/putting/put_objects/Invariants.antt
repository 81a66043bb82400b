use Rattle.std.proofs.Common.{◌≡◌, ◌≤◌, ◌-◌, length, take, drop}
use Rattle.object_store.specs.ImageText.{image_text}
use Rattle.target_node.specs.Putting.{Puts}
use Rattle.target_node.proofs.putting.put_objects.Given as goal

abbrev pub invariant-loop-at : goal.invariant-loop-at
invariant-loop-at g l = record {
  inside : l.at ≤ l.size;
  whole : l.size ≡ length (image_text l.objects);
  left : l.pieces ≡ drop l.at (image_text l.objects);
  room : length l.buffer ≡ 4096;
  puts : Puts (take l.at (image_text l.objects)) (g.D.Disk.shown l.fn.store.disk) (g.D.Disk.shown l.store.disk) l.fn.store.draft l.store.draft;
}

abbrev pub decreases-loop-at : goal.decreases-loop-at
decreases-loop-at g l = l.size - l.at
