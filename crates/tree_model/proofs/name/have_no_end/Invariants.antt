use Rattle.std.proofs.Common.{◌≢◌, drop}
use Rattle.std.specs.List.{AllByRecursion}
use Rattle.tree_model.specs.Names.{AreBytes}
use Rattle.tree_model.proofs.name.have_no_end.Given as goal

abbrev pub invariant-loop-b : goal.invariant-loop-b
invariant-loop-b l =
    (AreBytes (drop l.b-index l.bytes) → AreBytes l.bytes)
    × (AllByRecursion (λ b. (b ≢ 0) × (b ≢ 0x2f)) (drop l.b-index l.bytes) → AllByRecursion (λ b. (b ≢ 0) × (b ≢ 0x2f)) l.bytes)
    × (AllByRecursion (λ b. (b ≢ 0) × (b ≢ 0x2f)) l.bytes → AllByRecursion (λ b. (b ≢ 0) × (b ≢ 0x2f)) (drop l.b-index l.bytes))
