use Rattle.std.proofs.Common.{◌≡◌, ◌-◌}
use Rattle.reply_cache.specs.Seats.{no_seats}
use Rattle.state_image.specs.FrontReading.{taken_at}
use Rattle.state_image.proofs.reading.read_taken.Given as goal

abbrev pub invariant-loop-done : goal.invariant-loop-done
invariant-loop-done l = taken_at l.len (l.count - l._done) l.least l.seats l.rest ≡ taken_at l.len l.count 0 no_seats l.bytes
