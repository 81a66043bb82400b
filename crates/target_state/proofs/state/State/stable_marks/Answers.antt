use Rattle.std.proofs.Common.{◌≡◌, ◌∙◌, List, ap}
use Rattle.std.proofs.lemmas.Result.{IfOk-weaker}
use Rattle.llog_store.specs.Changes.{live_payloads}
use Rattle.target_state.specs.declared.waiting.Waiting.{Waiting}
use Rattle.target_state.specs.State.{TargetState}
use Rattle.target_state.specs.Marking.{stable_ids, greatest_batches, stable_marks}
use Rattle.target_state.proofs.state.State.stable_marks.Goals as goal

pub returns : goal.returns
returns c =
    let is =
    ap (λ (ws : List Waiting). greatest_batches 16 0 (stable_ids ws (live_payloads c.self.inside.log.entries))) c.items.ensures
    ∙ ap (λ (s : TargetState). stable_marks s) c.self.view_is in
    IfOk-weaker c.told.result (λ marks. marks ≡ greatest_batches 16 0 (stable_ids c.items.result.now (live_payloads c.self.inside.log.entries))) (λ marks. marks ≡ stable_marks c.args.self.now) (λ marks made. made ∙ is) c.told.ensures
