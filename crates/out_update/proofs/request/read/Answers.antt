use Rattle.std.proofs.Common.{sym}
use Rattle.out_update.specs.Positions.{at_position}
use Rattle.out_update.proofs.request.read.Goals as goal

pub returns-in-Reserved-clause-steps : goal.returns-in-Reserved-clause-steps
returns-in-Reserved-clause-steps c = λ next. rw (c.in-Reserved.is, sym c.set_byte.ensures.value, sym (c.updates.ensures.grammar c.args.owner next)) (c.unless.ensures.steps (at_position c.args.owner next))

pub returns-in-ZeroFour-clause-steps : goal.returns-in-ZeroFour-clause-steps
returns-in-ZeroFour-clause-steps c = λ next. rw (c.in-ZeroFour.is, sym c.set_byte-in-ZeroFour.ensures.value, sym (c.content.ensures.grammar c.args.owner next)) (c.unless-in-ZeroFour.ensures.steps (at_position c.args.owner next))

pub returns-in-Padding-clause-steps : goal.returns-in-Padding-clause-steps
returns-in-Padding-clause-steps c = λ next. rw (c.in-Padding.is, sym c.set_byte-in-Padding.ensures.value, sym (c.behind.ensures.grammar c.args.owner next)) (c.unless-in-Padding.ensures.steps (at_position c.args.owner next))
