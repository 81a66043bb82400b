use Rattle.std.proofs.Common.{◌∷◌, [], ◌++◌, ◌∙◌, List, ap}
use Rattle.out_update.specs.declared.result.UpdateResult.{UpdateResult}
use Rattle.target_state.proofs.Replying.{none_fits, one_fits}
use Rattle.target_state.proofs.state.State.results.Goals as goal

pub returns-in-None-clause-fits : goal.returns-in-None-clause-fits
returns-in-None-clause-fits c = none_fits c.new-reply.result c.new-reply.ensures

pub returns-in_ok-push-in-Some-clause-fits : goal.returns-in_ok-push-in-Some-clause-fits
returns-in_ok-push-in-Some-clause-fits c =
    let r = c.in_ok-result-in-Some.result in
    one_fits c.push.new.self r (c.in_ok-push-in-Some.ensures.ok ∙ ap (λ (l : List UpdateResult). l ++ (r ∷ [])) c.new-reply.ensures) c.in_ok-result-in-Some.ensures.spelled
