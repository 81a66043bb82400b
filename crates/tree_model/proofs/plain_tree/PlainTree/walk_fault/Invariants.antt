use Rattle.std.proofs.Common.{◌≡◌, ◌-◌}
use Rattle.tree_model.specs.Step.{walk_fault}
use Rattle.tree_model.proofs.plain_tree.PlainTree.walk_fault.Given as goal

abbrev pub invariant-loop-asked : goal.invariant-loop-asked
invariant-loop-asked l = walk_fault l.self.tree l.moved (1023 - l._asked) l.at ≡ walk_fault l.fn.self.tree l.fn.moved 1023 l.fn.from
