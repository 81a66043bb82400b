-- Which operations the planner takes.
use Rattle.tree_model.specs.declared.op.Op.{Op}
use Rattle.tree_model.specs.declared.op.Op.TheVariants as ops

-- all but rename and migrate
abbrev pub IsPlanned : Op → Type 0
IsPlanned (ops.Rename parent name to_parent to_name) = ⊥
IsPlanned (ops.Migrate directory count index) = ⊥
IsPlanned op = Unit {0}
