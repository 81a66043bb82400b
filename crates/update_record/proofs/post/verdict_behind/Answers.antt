use Rattle.std.proofs.Common.{◌∙◌, sym, arith}
use Rattle.update_record.proofs.Placed.{record_within, question_within, facts_within}
use Rattle.update_record.proofs.post.verdict_behind.Goals as goal

pub measure-requires : goal.measure-requires
measure-requires c = λ r e. let x = question_within c.args.rest.now r (sym c.verdict_on.ensures ∙ e) in omega arith

pub measure-requires-in-Held : goal.measure-requires-in-Held
measure-requires-in-Held c = λ r e. let x = facts_within c.args.rest.now r (sym c.verdict_on-in-Held.ensures ∙ e) in omega arith

pub measure-requires-in-Execute : goal.measure-requires-in-Execute
measure-requires-in-Execute c = λ r e. let x = record_within c.args.rest.now r (sym c.verdict_on-in-Execute.ensures ∙ e) in omega arith
