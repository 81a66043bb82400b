use Rattle.std.proofs.Common.{◌≡◌, drop}
use Rattle.target_state.specs.Marking.{waits}
use Rattle.target_state.proofs.waiting.waits.Given as goal

abbrev pub invariant-loop-item : goal.invariant-loop-item
invariant-loop-item l = waits (drop l.item-index l.waiting) l.master l.batch ≡ waits l.waiting l.master l.batch
