use Rattle.std.proofs.Common.{◌≡◌, ◌-◌, ◌++◌}
use Rattle.plan_base.specs.Listed.{entries_from}
use Rattle.plan_base.proofs.listed.entries_in.Given as goal

abbrev pub invariant-loop-read : goal.invariant-loop-read
invariant-loop-read l = l.entries ++ entries_from (33 - l._read) l.rest ≡ entries_from 33 l.bytes
