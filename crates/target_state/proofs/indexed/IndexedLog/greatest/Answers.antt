use Rattle.std.proofs.Common.{ℕ, None, ap, ◌∙◌}
use Rattle.llog_store.specs.Log.{Log}
use Rattle.llog_store.specs.Changes.{live_payloads}
use Rattle.target_state.specs.Marking.{stable_ids, greatest_batch}
use Rattle.target_state.proofs.Backwards.{latest_is}
use Rattle.target_state.proofs.indexed.IndexedLog.greatest.Goals as goal

pub returns : goal.returns
returns c =
    latest_is c.self.inside.live c.args.waiting.now c.args.master c.self.inside.log.entries c.latest.result c.self.invariant c.latest.ensures
    ∙ ap (λ (l : Log). greatest_batch c.args.master None (stable_ids c.args.waiting.now (live_payloads l.entries))) c.self.view_is
