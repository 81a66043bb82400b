use Rattle.std.proofs.Common.{◌≡◌, ◌-◌, None}
use Rattle.std.specs.FinMap.{empty}
use Rattle.object_store.specs.ImageReading.{object_at, items_at}
use Rattle.object_store.proofs.items.read_objects.Given as goal

abbrev pub invariant-loop-done : goal.invariant-loop-done
invariant-loop-done l = items_at (object_at l.len) (l.count - l._done) l.last l.objects l.rest ≡ items_at (object_at l.len) l.count None empty l.bytes
