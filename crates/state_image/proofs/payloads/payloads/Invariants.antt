use Rattle.std.proofs.Common.{◌≡◌, ◌-◌}
use Rattle.state_image.specs.StateReading.{payloads_at}
use Rattle.state_image.proofs.payloads.payloads.Given as goal

abbrev pub invariant-loop-record_index : goal.invariant-loop-record_index
invariant-loop-record_index l = payloads_at l.cluster l.index l.log.entries l.record_index (l.log.next - l.record_index) ≡ payloads_at l.cluster l.index l.log.entries 0 l.log.next
