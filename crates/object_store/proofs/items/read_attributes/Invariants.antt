use Rattle.std.proofs.Common.{◌≡◌, ◌-◌, None, option_map}
use Rattle.object_store.specs.ImageReading.{attribute_at, items_at}
use Rattle.object_store.proofs.items.read_attributes.Given as goal

abbrev pub invariant-loop-done : goal.invariant-loop-done
invariant-loop-done l =
    (items_at (attribute_at l.len) (l.count - l._done) (option_map (λ n. n.now) l.last) l.object.attributes l.rest ≡ items_at (attribute_at l.len) l.count None l.fn.object.attributes l.bytes)
    × (l.object ≡ record l.fn.object { attributes = l.object.attributes })
