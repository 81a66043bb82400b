use Rattle.std.proofs.Common.{◌≡◌, ◌++◌}
use Rattle.std.specs.List.{flat_map}
use Rattle.plan_base.specs.Planning.{moved_entry}
use Rattle.dir_migrate.specs.Migrations.{migration_of}
use Rattle.dir_migrate.proofs.moves.move_all.Given as goal

abbrev pub invariant-loop-name : goal.invariant-loop-name
invariant-loop-name l =
    l.placed ++ flat_map (moved_entry (migration_of l.plan.targets l.plan.batch l.m)) l.name-iterator ≡ flat_map (moved_entry (migration_of l.plan.targets l.plan.batch l.m)) l.initial.name-iterator
