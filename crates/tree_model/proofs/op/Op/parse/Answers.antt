use Rattle.std.proofs.Common.{map, ap, ◌∙◌}
use Rattle.tree_model.proofs.OpTexts.{parsed, refused}
use Rattle.tree_model.proofs.op.Op.parse.Goals as goal

pub returns-clause-ok : goal.returns-clause-ok
returns-clause-ok c = parsed c.args.cluster c.from_words.result c.args.text.now _ (ap (map (λ w. w.now)) c.as_slice.ensures.value ∙ c.in-Ok.ensures) c.from_words.ensures.ok

pub returns-clause-refused : goal.returns-clause-refused
returns-clause-refused c = λ e m. refused c.args.cluster c.args.text.now _ (ap (map (λ w. w.now)) c.as_slice.ensures.value ∙ c.in-Ok.ensures) (c.from_words.ensures.refused e m)
