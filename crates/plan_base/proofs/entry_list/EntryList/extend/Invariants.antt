use Rattle.std.proofs.Common.{◌≡◌, ◌++◌, drop}
use Rattle.plan_base.proofs.entry_list.EntryList.extend.Given as goal

abbrev pub invariant-loop-name : goal.invariant-loop-name
invariant-loop-name l = l.self ++ drop l.name-index l.name-items ≡ l.fn.self ++ l.more
