use Rattle.std.proofs.Common.{◌≡◌, ◌≤◌, ◌-◌, ◌++◌, length, take, drop}
use Rattle.object_store.specs.Pieces.{RestFits, left_text}
use Rattle.object_store.proofs.rest.Rest.copy.Given as goal

abbrev pub invariant-loop-done : goal.invariant-loop-done
invariant-loop-done l = record {
  there : l.done ≤ length (left_text l.fn.self);
  room : l.done ≤ length l.fn.into;
  bytes : l.into ≡ take l.done (left_text l.fn.self) ++ drop l.done l.fn.into;
  left : left_text l.self ≡ drop l.done (left_text l.fn.self);
  fits : RestFits l.self;
}

abbrev pub decreases-loop-done : goal.decreases-loop-done
decreases-loop-done l = length l.fn.into - l.done
