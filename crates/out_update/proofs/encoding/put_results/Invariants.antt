use Rattle.std.proofs.Common.{◌≡◌, ◌++◌, drop}
use Rattle.out_update.specs.Replies.{results_text}
use Rattle.out_update.proofs.encoding.put_results.Given as goal

abbrev pub invariant-loop-item : goal.invariant-loop-item
invariant-loop-item l = l.out.items ++ results_text (drop l.item-index l.results) ≡ l.fn.out.items ++ results_text l.results
