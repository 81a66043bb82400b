use Rattle.std.proofs.Common.{[]}
use Rattle.llog_store.specs.Log.{empty_log}
use Rattle.llog_store.proofs.Keeping.{kept_now, kept_log, empty_kept}
use Rattle.llog_store.proofs.llog.Llog.new.Goals as goal

pub invariant_of-result : goal.invariant_of-result
invariant_of-result c = rw c.new-2.ensures.items (kept_now empty_log c.in_ok-new.field-0 [] 1 0 (empty_kept c.in_ok-new.field-0 c.in_ok-new.ensures))

pub returns : goal.returns
returns c = kept_log empty_log c.in_ok-new.field-0 [] 1 0 (empty_kept c.in_ok-new.field-0 c.in_ok-new.ensures)
