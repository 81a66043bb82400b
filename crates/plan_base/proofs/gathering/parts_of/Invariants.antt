use Rattle.std.proofs.Common.{◌≡◌, ◌-◌, ◌++◌}
use Rattle.update_record.specs.Spelling.{targets_from}
use Rattle.plan_base.specs.Planners.{parts_from}
use Rattle.plan_base.proofs.gathering.parts_of.Given as goal

abbrev pub invariant-loop-target : goal.invariant-loop-target
invariant-loop-target l = record {
  all : l.parts ++ parts_from l.home l.placed l.target (l.target-end - l.target) ≡ parts_from l.home l.placed 0 l.fn.cluster;
  set : l.on ≡ targets_from 0 l.parts;
}
