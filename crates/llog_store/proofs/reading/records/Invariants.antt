use Rattle.std.proofs.Common.{◌≡◌, ◌-◌}
use Rattle.llog_store.specs.Views.{places_at}
use Rattle.llog_store.proofs.Loop.{with_front}
use Rattle.llog_store.proofs.reading.records.Given as goal

abbrev pub invariant-loop-index : goal.invariant-loop-index
invariant-loop-index l = with_front l.places.items (places_at (l.next - l.index) l.len l.index l.lost l.rest) ≡ places_at (l.next - 1) l.len 1 0 l.fn.rest
