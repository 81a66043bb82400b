use Rattle.std.proofs.Common.{map, ap, ◌∙◌}
use Rattle.scenario_text.proofs.Parsed.{parsed, refused}
use Rattle.scenario_text.proofs.command.Command.parse.Goals as goal

pub returns-clause-ok : goal.returns-clause-ok
returns-clause-ok c = parsed c.args.cluster c.of_words.result c.args.line.now _ (ap (map (λ w. w.now)) c.as_slice.ensures.value ∙ c.in-Ok.ensures) c.of_words.ensures.ok

pub returns-clause-refused : goal.returns-clause-refused
returns-clause-refused c = λ e. refused c.args.cluster c.args.line.now _ (ap (map (λ w. w.now)) c.as_slice.ensures.value ∙ c.in-Ok.ensures) (c.of_words.ensures.refused e)
