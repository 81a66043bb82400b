use Rattle.std.proofs.Common.{◌≡◌, drop}
use Rattle.object_store.specs.Meaning.{after_all}
use Rattle.object_store.proofs.objects.Objects.apply.Given as goal

abbrev pub invariant-loop-i : goal.invariant-loop-i
invariant-loop-i l = after_all l.self (drop l.i l.updates) ≡ after_all l.fn.self l.updates
