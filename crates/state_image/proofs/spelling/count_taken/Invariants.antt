use Rattle.std.proofs.Common.{◌≡◌, ◌≤◌, ◌+◌, drop}
use Rattle.state_image.specs.FrontText.{taken_count}
use Rattle.state_image.proofs.spelling.count_taken.Given as goal

abbrev pub invariant-loop-seat : goal.invariant-loop-seat
invariant-loop-seat l = (l.count + taken_count (drop l.seat-index l.seats) ≡ taken_count l.seats) × (l.count ≤ l.seat-index)
