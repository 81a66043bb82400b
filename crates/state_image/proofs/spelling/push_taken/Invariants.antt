use Rattle.std.proofs.Common.{◌≡◌, ◌≤◌, ◌+◌, ◌*◌, ◌++◌, length, drop}
use Rattle.state_image.specs.FrontText.{seats_from}
use Rattle.state_image.proofs.spelling.push_taken.Given as goal

abbrev pub invariant-loop-seat : goal.invariant-loop-seat
invariant-loop-seat l = (l.out ++ seats_from l.client (drop l.seat-index l.seats) ≡ l.fn.out ++ seats_from 0 l.seats) × (l.client ≡ l.seat-index) × (length l.out ≤ 64 + 16 * l.seat-index)
