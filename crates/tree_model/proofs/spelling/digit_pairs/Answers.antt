use Rattle.std.proofs.Common.{◌≢◌, ◌==◌, length, [], sym, ap, ◌∙◌}
use Rattle.std.proofs.lemmas.Bool.{false≢true}
use Rattle.tree_model.proofs.Spellings.{no_value}
use Rattle.tree_model.proofs.spelling.digit_pairs.Goals as goal

pub returns-in-None-clause-none : goal.returns-in-None-clause-none
returns-in-None-clause-none c = λ bytes h e.
    let some : c.loop-rest.rest.now ≢ [] = λ z. false≢true (c.loop-rest-test.ensures ∙ ap (λ l. length l == 0) z) in
    no_value c.loop-rest.bytes c.loop-rest.rest.now c.loop-rest.invariant.0 some c.in-None.ensures.none bytes h (sym c.loop-rest.invariant.1 ∙ e)
