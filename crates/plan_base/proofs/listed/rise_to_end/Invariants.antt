use Rattle.std.proofs.Common.{◌≡◌, ◌-◌, []}
use Rattle.plan_base.specs.Listed.{rise_to_end}
use Rattle.plan_base.proofs.listed.rise_to_end.Given as goal

abbrev pub invariant-loop-read : goal.invariant-loop-read
invariant-loop-read l = rise_to_end (33 - l._read) l.last l.rest ≡ rise_to_end 33 [] l.bytes
