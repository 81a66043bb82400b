use Rattle.std.proofs.Common.{◌-◌}
use Rattle.cross_rename.specs.Kept.{IsOnTheWay, MayKeep}
use Rattle.cross_rename.proofs.walks.walk.Given as goal

abbrev pub invariant-loop-asked : goal.invariant-loop-asked
invariant-loop-asked l = record {
  way : IsOnTheWay l.facts (record { moved = l.moved; from = l.from; left = l.first.left - l.asked; at = l.at });
  kept : MayKeep l.facts l.kept;
}
