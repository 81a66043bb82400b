use Rattle.std.proofs.Common.{◌≡◌, length}
use Rattle.object_store.specs.Pieces.{RestFits, behind_text, left_text}
use Rattle.object_store.proofs.rest.Rest.settle.Given as goal

abbrev pub invariant-loop-self : goal.invariant-loop-self
invariant-loop-self l = record { text : left_text l.self ≡ left_text l.fn.self; fits : RestFits l.self }

abbrev pub decreases-loop-self : goal.decreases-loop-self
decreases-loop-self l = length (behind_text l.self)
