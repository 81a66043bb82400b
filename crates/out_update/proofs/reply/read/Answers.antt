use Rattle.std.proofs.Common.{sym}
use Rattle.out_update.specs.Positions.{at_reply_position}
use Rattle.out_update.proofs.reply.read.Goals as goal

pub returns-in-Reserved-clause-steps : goal.returns-in-Reserved-clause-steps
returns-in-Reserved-clause-steps c = λ next. rw (c.in-Reserved.is, sym c.set_byte.ensures.value, sym (c.results.ensures.grammar next)) (c.unless.ensures.steps (at_reply_position next))

pub returns-in-Padding-clause-steps : goal.returns-in-Padding-clause-steps
returns-in-Padding-clause-steps c = λ next. rw (c.in-Padding.is, sym c.set_byte-in-Padding.ensures.value, sym (c.results-in-Padding.ensures.grammar next)) (c.unless-in-Padding.ensures.steps (at_reply_position next))
