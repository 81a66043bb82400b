-- A migration of the code as the definitions have it.
use Rattle.std.specs.Prelude.{ℕ}
use Rattle.tree_model.specs.declared.op.Op.{Op}
use Rattle.tree_model.specs.declared.op.Op.TheVariants as ops
use Rattle.dir_migrate.specs.declared.moves.Migrating.{Migrating}
use Rattle.plan_base.specs.Planning.{Migration}

abbrev pub migration_of : ℕ → ℕ → Migrating → Migration
migration_of targets batch m = record { targets = targets; batch = batch; directory = m.directory; old = m.old; new = m.new }

-- the operation of this planner
abbrev pub IsMigrate : Op → Type 0
IsMigrate (ops.Migrate directory count index) = Unit {0}
IsMigrate op = ⊥
