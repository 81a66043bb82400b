use Rattle.std.proofs.Common.{◌≡◌, true, IfSome, sym, subst, ◌∙◌}
use Rattle.reply_cache.specs.Seats.{is_answer}
use Rattle.state_image.proofs.Answers.{known_answers}
use Rattle.state_image.proofs.reading.reply.Goals as goal

pub returns-in-Some-clause-answer : goal.returns-in-Some-clause-answer
returns-in-Some-clause-answer c = subst (λ o. IfSome o (λ r. is_answer r ≡ true)) (sym c.answer_with.ensures ∙ c.in-Some.is) (known_answers c.in_ok-code.code)
