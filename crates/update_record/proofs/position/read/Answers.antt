use Rattle.std.proofs.Common.{sym}
use Rattle.update_record.specs.Positions.{at_record}
use Rattle.update_record.proofs.position.read.Goals as goal

pub returns-in-Reserved-clause-steps : goal.returns-in-Reserved-clause-steps
returns-in-Reserved-clause-steps c = rw (c.in-Reserved.is, sym c.set_byte.ensures.value) (c.unless.ensures.steps at_record)

pub returns-in-Request-clause-rank : goal.returns-in-Request-clause-rank
returns-in-Request-clause-rank c = rw c.in-Request.is c.read_request.ensures.rank
