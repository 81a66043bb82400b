use Rattle.std.proofs.Common.{ap, length, ◌∙◌}
use Rattle.llog_store.specs.Log.{Log, log_text}
use Rattle.target_state.proofs.Cancelling.{as_long}
use Rattle.target_state.proofs.indexed.IndexedLog.cancel_up_to.Goals as goal

pub returns-clause-long : goal.returns-clause-long
returns-clause-long c =
    ap (λ (l : Log). length (log_text l)) c.cancel_listed.ensures.log
    ∙ as_long c.args.master c.args.mark c.self.inside.log
    ∙ ap (λ (l : Log). length (log_text l)) c.self.view_is
