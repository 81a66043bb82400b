use Rattle.std.proofs.Common.{◌≡◌, ◌++◌, drop, map}
use Rattle.out_update.specs.declared.update.Update.{Update}
use Rattle.target_state.proofs.executing.written.Given as goal

abbrev pub invariant-loop-update : goal.invariant-loop-update
invariant-loop-update l = l.fids.items ++ map (λ (u : Update). u.fid) (drop l.update-index l.updates) ≡ map (λ (u : Update). u.fid) l.updates
