-- A move of the code as the definitions have it.
use Rattle.std.specs.Prelude.{ℕ, List}
use Rattle.tree_model.specs.declared.op.Op.{Op}
use Rattle.tree_model.specs.declared.op.Op.TheVariants as ops
use Rattle.cross_rename.specs.declared.renames.Moving.{Moving}
use Rattle.plan_base.specs.Planning.{Move}

abbrev pub move_of : ℕ → ℕ → Moving → List ℕ → List ℕ → Move
move_of targets batch m name to_name = record {
  targets = targets;
  batch = batch;
  parent = m.parent;
  from = m.from;
  name = name;
  to_parent = m.to_parent;
  to = m.to;
  to_name = to_name;
  moved = m.moved;
  node = m.node;
}

-- the operation of this planner
abbrev pub IsRename : Op → Type 0
IsRename (ops.Rename parent name to_parent to_name) = Unit {0}
IsRename op = ⊥
