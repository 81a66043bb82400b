use Rattle.std.proofs.Common.{◌≡◌, ◌+◌, ◌++◌, drop}
use Rattle.cluster_core.specs.Looks.{list_lines}
use Rattle.cluster_core.proofs.members.Members.show_list.Given as goal

abbrev pub invariant-loop-index : goal.invariant-loop-index
invariant-loop-index g l = l.lines ++ list_lines (l.index + 1) (drop l.index l.self.sent) ≡ l.fn.lines ++ list_lines 1 l.self.sent
