use Rattle.std.proofs.Common.{◌≡◌, ◌-◌, None, option_map}
use Rattle.object_store.specs.ImageReading.{entry_at, items_at}
use Rattle.object_store.proofs.items.read_entries.Given as goal

abbrev pub invariant-loop-done : goal.invariant-loop-done
invariant-loop-done l =
    (items_at (entry_at l.len) (l.count - l._done) (option_map (λ n. n.now) l.last) l.object.entries l.rest ≡ items_at (entry_at l.len) l.count None l.fn.object.entries l.bytes)
    × (l.object ≡ record l.fn.object { entries = l.object.entries })
